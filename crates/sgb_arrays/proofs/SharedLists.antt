-- Lists that share records, and what is known of the lists from each record on.
use Rattle.std.proofs.Common.{◌≡◌, ◌≤◌, ◌<◌, ◌+◌, ℕ, zero, suc, List, [], ◌∷◌, length, get_or, set, replicate, Option, Some, None, true, refl, sym, ◌∙◌, ap, arith, inl, inr}
use Rattle.std.specs.Prelude.{slice_index}
use Rattle.std.proofs.lemmas.Bool.{cases_eq}
use Rattle.std.proofs.lemmas.List.{get_or-replicate, get_or-set_same, get_or-set_other, length-replicate, length-set}
use Rattle.sgb_graph.specs.Graphs.{GraphData, chain_of, ends_of, vertex_of}
use Rattle.sgb_graph.specs.Growth.{IsKept, link}
use Rattle.sgb_graph.specs.declared.fields.ArcRec.{ArcRec}
use Rattle.sgb_graph.specs.declared.fields.Link.{Link}
use Rattle.sgb_graph.proofs.AddingArcs.{chain_of_vertex}
use Rattle.sgb_graph.proofs.Chains.{links_of_none, step_of}
use Rattle.sgb_graph.proofs.Growing.{lists_end, parts_of}
use Rattle.sgb_graph.proofs.MarkedWays.{way_inside}
use Rattle.sgb_arrays.specs.inner.Sizes.{AreKnown, links_of}

-- these arcs are the rest of a list: each begins the list from its record on, which is all of them from it on
abbrev pub AreOnWay : List ArcRec → List Link → Type 0
AreOnWay records [] = Unit {0}
AreOnWay records (l ∷ ls) = (l.number < length records) × (links_of records (Some l.number) ≡ l ∷ ls) × AreOnWay records ls

-- a list that ends is so
way_of : (records : List ArcRec) (ls : List Link) (first : Option ℕ) → links_of records first ≡ ls → ends_of records first ≡ true → AreOnWay records ls
way_of records [] first is ends = tt
way_of records (l ∷ ls) None is ends = absurd (cc (links_of_none records, is))
way_of records (l ∷ ls) (Some k) is ends =
    let step = step_of records k ends in
    let begin : link k (vertex_of step.here.tip) step.here.len ∷ links_of records step.here.next ≡ l ∷ ls = sym step.links ∙ is in
    let same : link k (vertex_of step.here.tip) step.here.len ≡ l = cc begin in
    let rest : links_of records step.here.next ≡ ls = cc begin in
    let number : l.number ≡ k = ap (λ (x : Link). x.number) (sym same) in (
      omega (arith, number, way_inside records k ends),
      ap (λ n. links_of records (Some n)) number ∙ is,
      way_of records ls step.here.next rest step.ends,
    )

-- so is the list of each vertex
pub chain_on_way : (g : GraphData) (v : ℕ) → IsKept g → v < length g.vertices → AreOnWay g.records (chain_of g v)
chain_on_way g v kept below =
    let c = chain_of_vertex g v (lists_end g (parts_of g kept.graph)) below in
    way_of g.records (chain_of g v) _ (sym c.chain) c.ends

-- of no record anything is known at first
pub none_known : (records : List ArcRec) (known : List ℕ) → known ≡ replicate (length records) 0 → AreKnown records known
none_known records known is = record {
  long = ap length is ∙ length-replicate (length records) 0;
  right = λ k below some. absurd (omega (arith, some, ap (λ xs. slice_index xs k) is, get_or-replicate {A = ℕ} (length records) k 0 0 below));
}

-- how long the rest of a list is, where that is known from its first record on
pub known_here : (records : List ArcRec) (known : List ℕ) (l : Link) (ls : List Link) → AreKnown records known → AreOnWay records (l ∷ ls)
    → 0 < slice_index known l.number → slice_index known l.number ≡ length (l ∷ ls)
known_here records known l ls are (inside, begins, rest) some = are.right l.number inside some ∙ ap length begins

-- a record more
pub known_more : (records : List ArcRec) (known : List ℕ) (l : Link) (ls : List Link) (left : ℕ) → AreKnown records known → AreOnWay records (l ∷ ls)
    → left ≡ length (l ∷ ls) → AreKnown records (set known l.number left)
known_more records known l ls left are (inside, begins, rest) is = record {
  long = length-set known l.number left ∙ are.long;
  right = λ k below some. elim (cases_eq k l.number) [
    | inl same ↦ ap (slice_index (set known l.number left)) same ∙ get_or-set_same known l.number left 0 (omega (arith, inside, are.long)) ∙ is
        ∙ sym (ap length begins) ∙ ap (λ n. length (links_of records (Some n))) (sym same)
    | inr other ↦
        let stays = get_or-set_other known l.number k left 0 other in
        stays ∙ are.right k below (omega (arith, some, stays))
  ];
}

-- The list of a vertex, handed out arc by arc and put into rows.
use Rattle.std.proofs.Common.{◌≡◌, ◌∙◌, ℕ, List, [], ◌∷◌, ◌++◌, map, pos, Some, Result, Ok, Err, ap, subst, arith}
use Rattle.std.specs.Prelude.{OnOk, IsOkUnless}
use Rattle.std.specs.List.{All, Contains, slice_get}
use Rattle.std.proofs.lemmas.Option.{get_or_from_slice_get, slice_get_within}
use Rattle.sgb_vec.specs.Lexicographic.{IsRising}
use Rattle.sgb_vec.specs.declared.panics.Panic.{Panic}
use Rattle.sgb_vec.specs.declared.panics.Panic.TheVariants.{NoRoom}
use Rattle.sgb_graph.specs.Graphs.{chain_of}
use Rattle.sgb_graph.specs.Made.{graph_described}
use Rattle.sgb_graph.specs.declared.fields.Link.{Link}
use Rattle.sgb_gen.specs.ArcSinks.{AreGiven}
use Rattle.sgb_gen.specs.LocalLists.{LocalArc, list_in}
use Rattle.sgb_gen.specs.VectorGraphs.{HasEnds, VectorGraph, described_by, vertex_among}
use Rattle.sgb_gen.proofs.ArcsInTurn.{TakesInTurn}
use Rattle.sgb_gen.proofs.LocalChains.{chain_said}
use Rattle.sgb_gen.proofs.MoveLists.{tips_of_list}
use Rattle.sgb_arrays.specs.declared.rows.Rows.{Rows}
use Rattle.sgb_arrays.specs.inner.PlacedArcs.{LeadsAmong, PutsArcs, more_arcs_put, no_arc_put}

-- rows with the list of a vertex more
record HaveListMore (g : VectorGraph) (v : ℕ) (old new : Rows) : Type 0 where
  pub tips : new.tips.items ≡ old.tips.items ++ map (λ (l : Link). l.tip) (chain_of (graph_described (described_by g)) v)
  pub lengths : new.lengths.items ≡ old.lengths.items ++ map (λ (l : Link). l.len) (chain_of (graph_described (described_by g)) v)
  pub starts : new.starts.items ≡ old.starts.items

-- a vector at a place is one of them
member_at : (vectors : List (List ℕ)) (v : ℕ) (x : List ℕ) → slice_get vectors v ≡ Some x → Contains vectors x
member_at vectors v x there = (v, slice_get_within vectors v x there, get_or_from_slice_get vectors v x x there)

-- its arcs, put into rows, are the list of its vertex
list_put : (g : VectorGraph) → IsRising g.vectors → All (HasEnds g.vectors) g.moves → (v : ℕ) (x : List ℕ) (places : List (List ℕ)) (old new : Rows)
    → slice_get g.vectors v ≡ Some x → places ≡ g.vectors → PutsArcs places old (list_in g x) new → HaveListMore g v old new
list_put g rise ends v x places old new there same put =
    let said = chain_said g rise ends v x there in
    let tips = tips_of_list g.vectors g.directed x g.moves rise ends (member_at g.vectors v x there) in
    let puts = subst (λ vectors. PutsArcs vectors old (list_in g x) new) same put in
    let now = puts tips in
    record {
      tips = now.0 ∙ ap (λ ts. old.tips.items ++ ts) said.tips;
      lengths = now.1 ∙ ap (λ ls. old.lengths.items ++ ls) said.lengths;
      starts = now.2;
    }

module _ {T : Type 0} (g : VectorGraph) (rise : IsRising g.vectors) (ends : All (HasEnds g.vectors) g.moves) (v : ℕ) (x : List ℕ) (places : List (List ℕ)) (old new : Rows) where
  -- what becomes of rows to which they were handed
  abbrev GivenTo : Result T Panic → Type 0
  GivenTo r = AreGiven {R = Rows} {S = ℕ} {F = Panic} (λ before _ arcs after _. PutsArcs places before arcs after) (λ _ _ _ _ _ f. f ≡ NoRoom) old 0 (list_in g x) new 0 r

  pub tips_given : (r : Result T Panic) → slice_get g.vectors v ≡ Some x → places ≡ g.vectors → GivenTo r
      → OnOk r (new.tips.items ≡ old.tips.items ++ map (λ (l : Link). l.tip) (chain_of (graph_described (described_by g)) v))
  tips_given (Ok y) there same given = (list_put g rise ends v x places old new there same given).tips
  tips_given (Err e) there same given = tt

  pub lengths_given : (r : Result T Panic) → slice_get g.vectors v ≡ Some x → places ≡ g.vectors → GivenTo r
      → OnOk r (new.lengths.items ≡ old.lengths.items ++ map (λ (l : Link). l.len) (chain_of (graph_described (described_by g)) v))
  lengths_given (Ok y) there same given = (list_put g rise ends v x places old new there same given).lengths
  lengths_given (Err e) there same given = tt

  pub starts_given : (r : Result T Panic) → slice_get g.vectors v ≡ Some x → places ≡ g.vectors → GivenTo r → OnOk r (new.starts.items ≡ old.starts.items)
  starts_given (Ok y) there same given = (list_put g rise ends v x places old new there same given).starts
  starts_given (Err e) there same given = tt

-- no memory is the one fault
pub fault_given : {T : Type 0} (arcs : List LocalArc) (places : List (List ℕ)) (old new : Rows) (r : Result T Panic)
    → AreGiven {R = Rows} {S = ℕ} {F = Panic} (λ before _ put after _. PutsArcs places before put after) (λ _ _ _ _ _ f. f ≡ NoRoom) old 0 arcs new 0 r
    → IsOkUnless r NoRoom
fault_given arcs places old new (Ok y) given = tt
fault_given arcs places old new (Err e) given = given

-- an arc that was put, or found no memory
pub arc_given : {T : Type 0} (places : List (List ℕ)) (tip : List ℕ) (len place : ℕ) (old new : Rows) (r : Result T Panic) → (Contains places tip → place ≡ vertex_among places tip)
    → OnOk r (new.tips.items ≡ old.tips.items ++ place ∷ []) → OnOk r (new.lengths.items ≡ old.lengths.items ++ pos len ∷ []) → OnOk r (new.starts.items ≡ old.starts.items) → IsOkUnless r NoRoom
    → AreGiven {R = Rows} {S = ℕ} {F = Panic} (λ before _ put after _. PutsArcs places before put after) (λ _ _ _ _ _ f. f ≡ NoRoom) old 0 (record { tip = tip; len = pos len } ∷ []) new 0 r
arc_given places tip len place old new (Ok y) found tips lengths starts memory = λ all. (
  tips ∙ ap (λ k. old.tips.items ++ k ∷ []) (found (all 0 (record { tip = tip; len = pos len }) (omega arith))),
  lengths,
  starts,
)
arc_given places tip len place old new (Err e) found tips lengths starts memory = memory

-- arcs are put in turn
pub arcs_in_turn : (vectors : List (List ℕ)) → TakesInTurn {R = Rows} {S = ℕ} {F = Panic} (λ old _ arcs new _. PutsArcs vectors old arcs new) (λ _ _ _ _ _ f. f ≡ NoRoom)
arcs_in_turn vectors = record {
  none = λ rows _. no_arc_put vectors rows;
  more = λ xs ys old _ mid _ new _ p q. more_arcs_put vectors xs ys old mid new p q;
  cut_after = λ _ _ _ _ _ _ _ _ _ _ q. q;
  cut_more = λ _ _ _ _ _ _ _ q. q;
}

-- All lists of a graph have as many arcs as it counts.
use Rattle.std.proofs.Common.{◌≡◌, ◌∙◌, ℕ, zero, suc, ◌+◌, ◌<◌, ◌≤◌, ◌==◌, Bool, true, false, List, [], ◌∷◌, ◌++◌, length, length-append, map, refl, sym, ap, ap₂, inl, inr, arith, if◌then◌else◌}
use Rattle.std.specs.List.{All, flat_map, range_with_len}
use Rattle.std.proofs.lemmas.Bool.{eq-eqb, ne_eqb, cases_eq}
use Rattle.std.proofs.lemmas.List.Elements.{All-head, All-tail}
use Rattle.sgb_vec.specs.Lexicographic.{IsRising}
use Rattle.sgb_graph.specs.Graphs.{chain_of}
use Rattle.sgb_graph.specs.Events.{Event, HasEndsBelow, Record, all_records, links_at, list_from, list_of, records_of}
use Rattle.sgb_graph.specs.Made.{graph_described}
use Rattle.sgb_graph.specs.declared.fields.Link.{Link}
use Rattle.sgb_graph.proofs.Described.{records_within}
use Rattle.sgb_gen.specs.Generators.{vector_graph_of}
use Rattle.sgb_gen.specs.VectorGraphs.{HasEnds, VectorGraph, described_by, event_among, family_graph}
use Rattle.sgb_gen.specs.declared.locals.Local.{Local}
use Rattle.sgb_gen.specs.declared.locals.Local.TheVariants as local
use Rattle.sgb_gen.proofs.ListedGraphs.{IsOfFamily, of_board, of_simplex, of_subsets}
use Rattle.sgb_gen.proofs.VectorVertices.{events_within, lists_of_graph, vertices_are_members}
use Rattle.sgb_arrays.specs.OpenGraphs.{graph_open}
use Rattle.sgb_arrays.specs.Runs.{parts_of}
use Rattle.sgb_arrays.specs.declared.open_graphs.OpenGraph.TheVariants.{Listed}

-- of parts that are put together
put_together : {X Y : Type 0} (f g : X → List Y) (xs : List X) → length (flat_map (λ x. f x ++ g x) xs) ≡ length (flat_map f xs) + length (flat_map g xs)
put_together f g [] = refl
put_together f g (x ∷ xs) =
    omega (
      arith,
      put_together f g xs,
      length-append (f x ++ g x) (flat_map (λ y. f y ++ g y) xs),
      length-append (f x) (g x),
      length-append (f x) (flat_map f xs),
      length-append (g x) (flat_map g xs),
    )

-- of no parts
no_parts : {X Y : Type 0} (f : X → List Y) (xs : List X) → ((x : X) → f x ≡ []) → length (flat_map f xs) ≡ 0
no_parts f [] none = refl
no_parts f (x ∷ xs) none = omega (arith, ap length (none x), length-append (f x) (flat_map f xs), no_parts f xs none)

-- what starts at s is on the list of s
abbrev at_start : ℕ → Link → ℕ → List Link
at_start s l v = if s == v then l ∷ [] else []

none_starts : (s a n : ℕ) (l : Link) → s < a → length (flat_map (at_start s l) (range_with_len a n)) ≡ 0
none_starts s a zero l before = refl
none_starts s a (suc n) l before =
    let other : (s == a) ≡ false = ne_eqb s a (λ e. omega (arith, e, before)) in
    grind (arith, other, none_starts s (a + 1) n l (omega (arith, before)))

one_starts : (s a n : ℕ) (l : Link) → a ≤ s → s < a + n → length (flat_map (at_start s l) (range_with_len a n)) ≡ 1
one_starts s a zero l from within = absurd (omega (arith, from, within))
one_starts s a (suc n) l from within = elim (cases_eq s a) [
  | inl here ↦
      let same : (s == a) ≡ true = eq-eqb s a here in
      grind (arith, same, none_starts s (a + 1) n l (omega (arith, here)))
  | inr later ↦
      let other : (s == a) ≡ false = ne_eqb s a later in
      grind (arith, other, one_starts s (a + 1) n l (omega (arith, from, later)) (omega (arith, within)))
]

-- each record is on one list
records_counted : (n k : ℕ) (rows : List Record) → All (λ r. r.start < n) rows → length (flat_map (λ v. links_at v k rows) (range_with_len 0 n)) ≡ length rows
records_counted n k [] within = no_parts (λ v. links_at v k []) (range_with_len 0 n) (λ v. refl)
records_counted n k (r ∷ rows) within =
    let l : Link = record { number = k; tip = r.tip; len = r.len } in
    omega (
      arith,
      put_together (at_start r.start l) (λ v. links_at v (k + 1) rows) (range_with_len 0 n),
      one_starts r.start 0 n l (omega arith) (omega (arith, All-head (λ (q : Record). q.start < n) r rows within)),
      records_counted n (k + 1) rows (All-tail (λ (q : Record). q.start < n) r rows within),
    )

-- so the lists have all records of the events
events_counted : (directed : Bool) (n k : ℕ) (events : List Event) → All (HasEndsBelow n) events
    → length (flat_map (λ v. list_from directed k events v) (range_with_len 0 n)) ≡ length (all_records directed events)
unfolding list_from
events_counted directed n k [] within = no_parts (λ v. list_from directed k [] v) (range_with_len 0 n) (λ v. refl)
events_counted directed n k (e ∷ events) within =
    let own = records_of directed e in
    omega (
      arith,
      put_together (λ v. list_from directed (k + length own) events v) (λ v. links_at v k own) (range_with_len 0 n),
      events_counted directed n (k + length own) events (All-tail (HasEndsBelow n) e events within),
      records_counted n k own (records_within n directed e (All-head (HasEndsBelow n) e events within)),
      length-append own (all_records directed events),
    )

-- lists that are the same for the vertices of a run
same_parts : {X : Type 0} (f g : ℕ → List X) (a n : ℕ) → ((v : ℕ) → a ≤ v → v < a + n → f v ≡ g v) → flat_map f (range_with_len a n) ≡ flat_map g (range_with_len a n)
same_parts f g a zero same = refl
same_parts f g a (suc n) same =
    ap₂ (λ xs ys. xs ++ ys) (same a (omega arith) (omega arith)) (same_parts f g (a + 1) n (λ v from within. same v (omega (arith, from)) (omega (arith, within))))

-- the lists of a graph of vectors have as many arcs as it counts
all_arcs : (g : VectorGraph) → IsRising g.vectors → All (HasEnds g.vectors) g.moves
    → length (parts_of (chain_of (graph_described (described_by g))) 0 (length g.vectors)) ≡ (graph_described (described_by g)).m
unfolding parts_of family_graph
all_arcs g rise ends =
    let n = length g.vectors in
    let events = map (event_among g.vectors) g.moves in
    ap length (same_parts (chain_of (graph_described (described_by g))) (λ v. list_of g.directed events v) 0 n (λ v from within. lists_of_graph g rise ends v (omega (arith, within))))
    ∙ events_counted g.directed n 0 events (events_within g.vectors g.moves rise ends)

-- so have those of a generator's graph
of_local : (l : Local) → IsOfFamily (vector_graph_of l)
of_local (local.Board b) = of_board b
of_local (local.Simplex s) = of_simplex s
of_local (local.Subsets s) = of_subsets s

pub local_arcs : (l : Local) → length (parts_of (chain_of (graph_open (Listed l))) 0 (length (graph_open (Listed l)).vertices)) ≡ (graph_open (Listed l)).m
local_arcs l =
    let g = vector_graph_of l in
    ap (λ n. length (parts_of (chain_of (graph_described (described_by g))) 0 n)) (vertices_are_members g g.vectors refl)
    ∙ all_arcs g (of_local l).rising (of_local l).ends

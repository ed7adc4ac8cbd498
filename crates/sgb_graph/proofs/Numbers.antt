-- Integers in the utility fields x, y, z of vertices.
use Rattle.sgb_vec.proofs.Common.{rules, ◌≡◌, ℕ, slice_get, option_map, zero, suc, ℤ, true, List, [], ◌∷◌, length, set, map, refl, ap, ◌∙◌, arith, option_map_or, and_parts, and_from, take-set-lt, drop-set-lt, length-map, slice_get-map}
use Rattle.sgb_graph.specs.Graphs.{GraphData, chain_of}
use Rattle.sgb_graph.specs.inner.Chains.{links_of}
use Rattle.sgb_graph.specs.Sound.{arc_kinds, graph_kinds, vertex_kinds, util_fits, utils_fit}
use Rattle.sgb_graph.specs.inner.Growth.{HoldNumbers}
use Rattle.sgb_graph.specs.Growth.{IsKept, at_place, number_or_zero, put_numbers, some_numbers, with_ints, with_number_kinds, with_numbers, with_some_numbers}
use Rattle.sgb_graph.specs.declared.fields.Kind.{Kind}
use Rattle.sgb_graph.specs.declared.fields.Kind.TheVariants.{I}
use Rattle.sgb_graph.specs.declared.fields.Util.{Util}
use Rattle.sgb_graph.specs.declared.fields.Util.TheVariants.{Int}
use Rattle.sgb_graph.specs.declared.fields.Vertex.{Vertex}
use Rattle.sgb_graph.proofs.Lists.{length-at_place, list_all-at_place, list_all-mapped, map-at_place, map-at_place_made, map-map}
use Rattle.sgb_graph.proofs.Fitting.{vertex_fits_in}
use Rattle.sgb_graph.proofs.Chains.{lead_within}
use Rattle.sgb_graph.proofs.Growing.{parts_of, refilled}

-- fields of which one becomes a number
number_fits : (n m k : ℕ) (kinds : List Kind) (utils : List Util) → utils_fit n m kinds utils ≡ true → utils_fit n m (set kinds k I) (at_place number_or_zero k utils) ≡ true
number_fits n m k [] [] e = e
number_fits n m zero (a ∷ kinds) (u ∷ utils) e = grind (arith, and_parts, and_from)
number_fits n m (suc k) (a ∷ kinds) (u ∷ utils) e = grind (arith, and_parts, and_from, set, number_fits n m k kinds utils (and_parts (util_fits n m a u) (utils_fit n m kinds utils) e).1)
number_fits n m k _ _ e = absurd cc

-- fields of which one gets another number
put_fits : (n m k : ℕ) (i : ℤ) (kinds : List Kind) (utils : List Util) → utils_fit n m kinds utils ≡ true → set kinds k I ≡ kinds → utils_fit n m kinds (set utils k (Int i)) ≡ true
put_fits n m k i [] [] e is = e
put_fits n m zero i (a ∷ kinds) (u ∷ utils) e is = grind (arith, and_from, and_parts)
put_fits n m (suc k) i (a ∷ kinds) (u ∷ utils) e is = grind (arith, set, and_parts, and_from, put_fits n m k i kinds utils (and_parts (util_fits n m a u) (utils_fit n m kinds utils) e).1 (cc))
put_fits n m k i _ _ e is = absurd cc

-- the kinds of vertices, and the others, where the fields x, y, z hold integers
record SplitKinds (kinds : List Kind) : Type 0 where
  vertices : vertex_kinds (with_number_kinds kinds) ≡ with_number_kinds (vertex_kinds kinds)
  arcs : arc_kinds (with_number_kinds kinds) ≡ arc_kinds kinds
  own : graph_kinds (with_number_kinds kinds) ≡ graph_kinds kinds

-- as they are where these are put
split_kinds : (kinds : List Kind) → SplitKinds kinds
split_kinds kinds = search (rules, take-set-lt, drop-set-lt)

-- they hold integers then
hold_then : (kinds : List Kind) → HoldNumbers (with_number_kinds kinds)
hold_then [] = record { x = refl; y = refl; z = refl }
hold_then (a ∷ []) = record { x = refl; y = refl; z = refl }
hold_then (a ∷ b ∷ []) = record { x = refl; y = refl; z = refl }
hold_then (a ∷ b ∷ c ∷ []) = record { x = refl; y = refl; z = refl }
hold_then (a ∷ b ∷ c ∷ d ∷ []) = record { x = refl; y = refl; z = refl }
hold_then (a ∷ b ∷ c ∷ d ∷ e ∷ []) = record { x = refl; y = refl; z = refl }
hold_then (a ∷ b ∷ c ∷ d ∷ e ∷ f ∷ kinds) = record { x = refl; y = refl; z = refl }

-- so do the kinds of vertices
hold_in_six : (kinds : List Kind) → HoldNumbers kinds → HoldNumbers (vertex_kinds kinds)
hold_in_six kinds h = search (rules, take-set-lt)

-- a vertex with numbers in its fields fits
some_fit : (n m : ℕ) (kinds : List Kind) (x : Vertex) → vertex_fits_in n m kinds x ≡ true → vertex_fits_in n m (with_number_kinds kinds) (with_some_numbers x) ≡ true
some_fit n m kinds x fits = grind (arith, and_parts, number_fits, set, and_from, split_kinds)

-- and with other numbers too
numbers_fit : (n m : ℕ) (kinds : List Kind) (x y z : ℤ) (v : Vertex) → HoldNumbers kinds → vertex_fits_in n m kinds v ≡ true → vertex_fits_in n m kinds (with_numbers x y z v) ≡ true
numbers_fit n m kinds x y z v hold fits = grind (arith, hold_in_six, and_parts, put_fits, set, and_from)

-- the graph with these numbers is one
pub ints_kept : (g : GraphData) (v : ℕ) (x y z : ℤ) → IsKept g → IsKept (with_ints g v x y z)
ints_kept g v x y z kept =
    let has = parts_of g kept.graph in
    let n = length g.vertices in
    let m = length g.records in
    let kinds = with_number_kinds g.kinds in
    let some = map with_some_numbers g.vertices in
    let own : utils_fit n m (graph_kinds kinds) g.util ≡ true = rw (split_kinds g.kinds).own has.util in
    refilled g kinds g.util (at_place (with_numbers x y z) v some) kept (length-at_place (with_numbers x y z) v some ∙ length-map g.vertices with_some_numbers) (split_kinds g.kinds).arcs own
    (list_all-at_place (vertex_fits_in n m kinds) (with_numbers x y z) v some (λ w fits. numbers_fit n m kinds x y z w (hold_then g.kinds) fits)
    (list_all-mapped (vertex_fits_in n m g.kinds) (vertex_fits_in n m kinds) with_some_numbers g.vertices (λ w fits. some_fit n m g.kinds w fits) has.vertices))
    (list_all-at_place (λ (w : Vertex). lead_within m g.records w.arcs) (with_numbers x y z) v some (λ w h. h)
    (list_all-mapped (λ (w : Vertex). lead_within m g.records w.arcs) (λ (w : Vertex). lead_within m g.records w.arcs) with_some_numbers g.vertices (λ w h. h) has.leads))

-- its names
pub ints_names : (g : GraphData) (v : ℕ) (x y z : ℤ) → map (λ w. w.name) (with_ints g v x y z).vertices ≡ map (λ w. w.name) g.vertices
ints_names g v x y z = search (rules, map-at_place, map-map)

-- its fields
pub ints_fields : (g : GraphData) (v : ℕ) (x y z : ℤ) → map (λ w. w.util) (with_ints g v x y z).vertices ≡ at_place (put_numbers x y z) v (map (λ w. some_numbers w.util) g.vertices)
ints_fields g v x y z =
    map-at_place_made (λ w. w.util) (with_numbers x y z) (put_numbers x y z) v (map with_some_numbers g.vertices) (λ w. refl)
    ∙ ap (at_place (put_numbers x y z) v) (map-map (λ w. w.util) with_some_numbers g.vertices)

-- its first records
pub ints_firsts : (g : GraphData) (v : ℕ) (x y z : ℤ) → map (λ w. w.arcs) (with_ints g v x y z).vertices ≡ map (λ w. w.arcs) g.vertices
ints_firsts g v x y z = search (rules, map-at_place, map-map)

-- its chains, which depend on the first records alone
chain_by_first : (g : GraphData) (w : ℕ) → chain_of g w ≡ option_map_or (links_of g.records) (slice_get (map (λ x. x.arcs) g.vertices) w) []
chain_by_first g w = grind (arith, slice_get, slice_get-map, option_map)

-- so they stay
pub ints_chains : (g : GraphData) (v : ℕ) (x y z : ℤ) (w : ℕ) → chain_of (with_ints g v x y z) w ≡ chain_of g w
ints_chains g v x y z w = search (rules, chain_by_first, ints_firsts)

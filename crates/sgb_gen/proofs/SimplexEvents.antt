-- The events of a simplex, as its moves are made one after another.
use Rattle.std.proofs.Common.{◌≡◌, ℕ, ◌+◌, ◌-◌, ◌<◌, ◌≤◌, pos, Bool, true, false, cond, List, [], ◌∷◌, ◌++◌, length, map, Option, Some, None, sym, ◌∙◌, arith}
use Rattle.std.specs.List.{Contains, flat_map, range_with_len, slice_get}
use Rattle.std.proofs.lemmas.List.{map-append}
use Rattle.std.proofs.lemmas.List.Elements.{filter-append, length_all_zip}
use Rattle.sgb_vec.proofs.SumMembers.{Contains-bounded_sums, bounded_sums-rise}
use Rattle.sgb_graph.specs.Events.{Event}
use Rattle.sgb_gen.specs.VectorGraphs.{event_among, vertex_among}
use Rattle.sgb_gen.specs.Simplexes.{SimplexData, Places, moves_to, moves_of_simplex, simplex_vectors}
use Rattle.sgb_gen.specs.inner.Simplexes.{can_shift, shifted, pairs_from, moves_by}
use Rattle.sgb_gen.proofs.FamilyWalks.{map-flat_map}
use Rattle.sgb_gen.proofs.RisingVectors.{vertex_in_rising}
use Rattle.sgb_gen.proofs.ShiftLemmas.{shifted-in_sum}

-- a vertex has one entry for each bound
pub length_in_sum : (s : SimplexData) (x : List ℕ) → Contains (simplex_vectors s) x → length x ≡ length s.sum.bounds
length_in_sum s x h = length_all_zip (λ a b. a ≤ b) x s.sum.bounds ((Contains-bounded_sums s.sum.total s.sum.bounds x).0 h).0

-- a unit that goes to a higher place leads to a vertex
pub shifted_in_simplex : (s : SimplexData) (x : List ℕ) (at : Places) → Contains (simplex_vectors s) x → at.lower < at.higher → at.higher < length x → can_shift s.sum.bounds x at ≡ true → Contains (simplex_vectors s) (shifted x at)
shifted_in_simplex s x at h order within can =
    let here = (Contains-bounded_sums s.sum.total s.sum.bounds x).0 h in
    let there = shifted-in_sum s.sum.bounds x at order within can here.0 in
    (Contains-bounded_sums s.sum.total s.sum.bounds (shifted x at)).1 (there.0, there.1 ∙ here.1)

-- the vertex of a vector is its place
pub vertex_in_simplex : (s : SimplexData) (v : ℕ) (x : List ℕ) → slice_get (simplex_vectors s) v ≡ Some x → vertex_among (simplex_vectors s) x ≡ v
vertex_in_simplex s v x at = vertex_in_rising (simplex_vectors s) v x (bounded_sums-rise s.sum.total s.sum.bounds) at

-- the events of the moves to x by these pairs of places
abbrev pub events_by : SimplexData → List ℕ → List Places → List Event
events_by s x pairs = map (event_among (simplex_vectors s)) (moves_by s.sum.bounds x pairs)

-- by some pairs and then by others
pub events_by-append : (s : SimplexData) (x : List ℕ) (ps qs : List Places) → events_by s x (ps ++ qs) ≡ events_by s x ps ++ events_by s x qs
events_by-append s x ps qs = grind (arith, filter-append, map-append)

-- where the vertex x becomes leads, as the code returns it
abbrev pub vertex_by : SimplexData → List ℕ → Places → Option ℕ
vertex_by s x at =
    cond (can_shift s.sum.bounds x at) (Some (vertex_among (simplex_vectors s) (shifted x at))) None

-- a pair by which no unit can go adds no event
no_vertex : (b : Bool) (u : ℕ) → cond b (Some u) None ≡ None → b ≡ false
no_vertex b u e = grind (arith)

pub events_by-out : (s : SimplexData) (x : List ℕ) (at : Places) (ps : List Places) → vertex_by s x at ≡ None → events_by s x (at ∷ ps) ≡ events_by s x ps
events_by-out s x at ps e = grind (arith, no_vertex)

pub events_by-next : (s : SimplexData) (x : List ℕ) (at : Places) (ps : List Places) (u v : ℕ) → vertex_by s x at ≡ Some u → slice_get (simplex_vectors s) v ≡ Some x → events_by s x (at ∷ ps) ≡ (record { from = u; to = v; len = pos 1 } ∷ []) ++ events_by s x ps
events_by-next s x at ps u v e here = grind (arith, vertex_in_simplex)

-- the pairs of the lower place and the higher ones from k on
abbrev pub pairs_left : ℕ → ℕ → ℕ → List Places
pairs_left n j k = map (λ i. record { lower = j; higher = i }) (range_with_len k (n - k))

pub pairs_left-next : (n j k : ℕ) → k < n → pairs_left n j k ≡ record { lower = j; higher = k } ∷ pairs_left n j (k + 1)
pairs_left-next n j k h = grind (arith)

-- the pairs whose lower place is j or a later one
abbrev pub pairs_after : ℕ → ℕ → List Places
pairs_after n j = flat_map (pairs_from n) (range_with_len j (n - j))

pub pairs_after-next : (n j : ℕ) → j < n → pairs_after n j ≡ pairs_from n j ++ pairs_after n (j + 1)
pairs_after-next n j h = grind (arith)

pub pairs_after-none : (n j : ℕ) → n ≤ j → pairs_after n j ≡ []
pairs_after-none n j h = grind (arith)

-- the events of the moves to x, and those of all moves
abbrev pub events_to : SimplexData → List ℕ → List Event
events_to s x = map (event_among (simplex_vectors s)) (moves_to s.sum.bounds x)

abbrev pub events_of : SimplexData → List Event
events_of s = flat_map (events_to s) (simplex_vectors s)

-- they are the definition's
pub events_of-moves : (s : SimplexData) → events_of s ≡ map (event_among (simplex_vectors s)) (moves_of_simplex s)
unfolding moves_of_simplex
events_of-moves s = sym (map-flat_map (event_among (simplex_vectors s)) (moves_to s.sum.bounds) (simplex_vectors s))

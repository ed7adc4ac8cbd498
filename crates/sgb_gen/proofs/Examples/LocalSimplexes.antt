-- Lists of one vertex of a simplex, by pairs of its places, evaluated.
use Rattle.std.specs.Prelude.{◌≡◌, ℕ, true, false, List, [], ◌∷◌, refl}
use Rattle.sgb_vec.specs.Boxes.{box}
use Rattle.sgb_vec.specs.Sums.{bounded_sums}
use Rattle.sgb_graph.specs.Events.{list_from}
use Rattle.sgb_gen.specs.Simplexes.{SimplexData, Places, simplex_vectors, moves_of_simplex}
use Rattle.sgb_gen.specs.LocalLists.{list_at}
use Rattle.sgb_gen.specs.inner.LocalSimplexes.{can_return, returned, arc_by_unit, pairs_down, pairs_back, arcs_by_pairs}
use Rattle.sgb_gen.proofs.Examples.LocalLists.{triangle, unit_arcs}

-- two places
abbrev places : ℕ → ℕ → Places
places j k = record { lower = j; higher = k }

-- the pairs of three places, by the lower ones
pub pairs_of_the_first : pairs_down 3 0 ≡ places 0 2 ∷ places 0 1 ∷ []
pairs_of_the_first = refl

pub pairs_of_three : pairs_back 3 ≡ places 0 2 ∷ places 0 1 ∷ places 1 2 ∷ []
pairs_of_three = refl

-- a unit goes back
pub unit_back : returned (1 ∷ 1 ∷ 0 ∷ []) (places 0 1) ≡ 2 ∷ 0 ∷ 0 ∷ []
unit_back = refl

pub room_for_it : can_return (2 ∷ 2 ∷ 2 ∷ []) (1 ∷ 1 ∷ 0 ∷ []) (places 0 1) ≡ true
room_for_it = refl

-- there is none at the higher place
pub no_unit : can_return (2 ∷ 2 ∷ 2 ∷ []) (1 ∷ 1 ∷ 0 ∷ []) (places 0 2) ≡ false
no_unit = refl

-- the lower place has no room
pub no_room : can_return (1 ∷ 2 ∷ 2 ∷ []) (1 ∷ 1 ∷ 0 ∷ []) (places 0 1) ≡ false
no_room = refl

-- the arc from place 1 to place 0, and none from place 2 to place 0
pub arc_of_the_unit : arc_by_unit (2 ∷ 2 ∷ 2 ∷ []) (1 ∷ 1 ∷ 0 ∷ []) 1 0 ≡ unit_arcs ((2 ∷ 0 ∷ 0 ∷ []) ∷ [])
arc_of_the_unit = refl

pub no_arc : arc_by_unit (2 ∷ 2 ∷ 2 ∷ []) (1 ∷ 1 ∷ 0 ∷ []) 2 0 ≡ []
no_arc = refl

-- simplex(2,2,2,2,0,0,0) at its vertex 1.1.0. The vertices are 0.0.2, 0.1.1, 0.2.0, 1.0.1, 1.1.0 and 2.0.0. The
-- moves to 1.1.0 are from 0.2.0, 0.1.1 and 1.0.1, in this order; then the one to 2.0.0 starts at it.
abbrev evens : List ℕ
evens = 2 ∷ 2 ∷ 2 ∷ []

abbrev corner : List (List ℕ)
corner = (2 ∷ 0 ∷ 0 ∷ []) ∷ []

abbrev around : List (List ℕ)
around = (2 ∷ 0 ∷ 0 ∷ []) ∷ (1 ∷ 0 ∷ 1 ∷ []) ∷ (0 ∷ 1 ∷ 1 ∷ []) ∷ (0 ∷ 2 ∷ 0 ∷ []) ∷ []

pub undirected_by_pairs : arcs_by_pairs false evens (1 ∷ 1 ∷ 0 ∷ []) ≡ unit_arcs around
undirected_by_pairs = refl

pub directed_by_pairs : arcs_by_pairs true evens (1 ∷ 1 ∷ 0 ∷ []) ≡ unit_arcs corner
directed_by_pairs = refl

-- the same by its moves
pub undirected_by_moves : list_at false (simplex_vectors triangle) (moves_of_simplex triangle) (1 ∷ 1 ∷ 0 ∷ []) ≡ unit_arcs around
unfolding box bounded_sums list_from list_at moves_of_simplex
undirected_by_moves = refl

pub directed_by_moves : list_at true (simplex_vectors triangle) (moves_of_simplex triangle) (1 ∷ 1 ∷ 0 ∷ []) ≡ unit_arcs corner
unfolding box bounded_sums list_from list_at moves_of_simplex
directed_by_moves = refl

-- simplex(3,2,1,1,0,0,0): its vertices are 1.1.1, 2.0.1 and 2.1.0; no unit goes to a place that is full
abbrev tight : SimplexData
tight = record { params = []; sum = record { total = 3; bounds = 2 ∷ 1 ∷ 1 ∷ [] }; directed = false }

pub full_places_by_pairs : arcs_by_pairs false (2 ∷ 1 ∷ 1 ∷ []) (1 ∷ 1 ∷ 1 ∷ []) ≡ unit_arcs ((2 ∷ 1 ∷ 0 ∷ []) ∷ (2 ∷ 0 ∷ 1 ∷ []) ∷ [])
full_places_by_pairs = refl

pub full_places_by_moves : list_at false (simplex_vectors tight) (moves_of_simplex tight) (1 ∷ 1 ∷ 1 ∷ []) ≡ unit_arcs ((2 ∷ 1 ∷ 0 ∷ []) ∷ (2 ∷ 0 ∷ 1 ∷ []) ∷ [])
unfolding box bounded_sums list_from list_at moves_of_simplex
full_places_by_moves = refl

-- Lists of one vertex, evaluated.
use Rattle.std.specs.Prelude.{◌≡◌, ℕ, pos, true, false, List, [], ◌∷◌, map, refl}
use Rattle.sgb_vec.specs.Boxes.{box}
use Rattle.sgb_vec.specs.Sums.{bounded_sums}
use Rattle.sgb_graph.specs.Events.{list_from}
use Rattle.sgb_gen.specs.Simplexes.{SimplexData, simplex_vectors, moves_of_simplex}
use Rattle.sgb_gen.specs.LocalLists.{LocalArc, list_at}

-- simplex(2,0,0,0,0,0,0)
abbrev pub triangle : SimplexData
triangle = record { params = []; sum = record { total = 2; bounds = 2 ∷ 2 ∷ 2 ∷ [] }; directed = false }

-- arcs of length 1 to these vectors
abbrev pub unit_arcs : List (List ℕ) → List LocalArc
unit_arcs tips = map (λ v. record { tip = v; len = pos 1 }) tips

-- its vertex 0.1.1
pub middle : list_at false (simplex_vectors triangle) (moves_of_simplex triangle) (0 ∷ 1 ∷ 1 ∷ [])
    ≡ unit_arcs ((1 ∷ 1 ∷ 0 ∷ []) ∷ (1 ∷ 0 ∷ 1 ∷ []) ∷ (0 ∷ 2 ∷ 0 ∷ []) ∷ (0 ∷ 0 ∷ 2 ∷ []) ∷ [])
unfolding box bounded_sums list_from list_at moves_of_simplex
middle = refl

-- the same directed
pub middle_directed : list_at true (simplex_vectors triangle) (moves_of_simplex triangle) (0 ∷ 1 ∷ 1 ∷ [])
    ≡ unit_arcs ((1 ∷ 1 ∷ 0 ∷ []) ∷ (1 ∷ 0 ∷ 1 ∷ []) ∷ (0 ∷ 2 ∷ 0 ∷ []) ∷ [])
unfolding box bounded_sums list_from list_at moves_of_simplex
middle_directed = refl

-- a loop stands twice on the list of an undirected graph
pub loop_twice : list_at false ((0 ∷ []) ∷ (1 ∷ []) ∷ []) (record { from = 1 ∷ []; to = 1 ∷ []; len = 3 } ∷ []) (1 ∷ [])
    ≡ record { tip = 1 ∷ []; len = pos 3 } ∷ record { tip = 1 ∷ []; len = pos 3 } ∷ []
unfolding list_from list_at
loop_twice = refl

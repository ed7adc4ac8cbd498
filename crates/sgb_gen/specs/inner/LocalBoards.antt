-- The list of one vector of a board, by displacements.
use Rattle.std.specs.Prelude.{ℕ, pos, ℤ, ◌==◌, ◌||◌, Bool, not, List, [], ◌∷◌, ◌++◌, map, filter, Option, Some, None, if◌then◌else◌}
use Rattle.std.specs.List.{flat_map}
use Rattle.sgb_moves.specs.Moves.{Side, moves_from, opposite}
use Rattle.sgb_moves.specs.inner.Moves.{destination}
use Rattle.sgb_moves.specs.VectorMoves.{Move, same_vector}
use Rattle.sgb_gen.specs.VectorGraphs.{vertex_among}
use Rattle.sgb_gen.specs.inner.LocalArcs.{arcs_by}
use Rattle.sgb_gen.specs.LocalLists.{LocalArc}

-- the arc of its start that a move makes
abbrev pub move_arc : Move → LocalArc
move_arc m = record { tip = m.to; len = pos m.len }

-- the arcs of x that an edge of length l makes whose other end is this vector: two where that is x again
abbrev pub edge_arcs : List ℕ → ℕ → Option (List ℕ) → List LocalArc
edge_arcs x l None = []
edge_arcs x l (Some y) =
    record { tip = y; len = pos l } ∷ (if same_vector y x then record { tip = x; len = pos l } ∷ [] else [])

-- moves that start at vertex u, each by its start and its length
abbrev pub own_starts : ℕ → List Move → List (ℕ × ℕ)
own_starts u moves = map (λ m. (u, m.len)) moves

-- moves that lead from vertex u to other vertices, turned back: each by the vertex where it then starts, and its length
abbrev pub other_starts : List (List ℕ) → ℕ → List Move → List (ℕ × ℕ)
other_starts vectors u moves =
    map (λ m. (vertex_among vectors m.to, m.len)) (filter (λ m. not (vertex_among vectors m.to == u)) moves)

-- the edges that touch x, by their starts and lengths: they start at x by t, or come to x, which is to leave it by
-- the opposite of t
abbrev pub starts_of : List Side → ℤ → List (List ℕ) → List ℕ → List ℤ → List (ℕ × ℕ)
starts_of sides piece vectors x t =
    own_starts (vertex_among vectors x) (moves_from sides piece x t)
    ++ other_starts vectors (vertex_among vectors x) (moves_from sides piece x (opposite t))

-- the arcs of x, which is vertex u, that the edges with these starts and lengths make: of an edge that starts at x
-- the other end lies by t, of another by back
abbrev pub arcs_of_starts : List Side → ℤ → ℕ → List ℕ → List ℤ → List ℤ → List (ℕ × ℕ) → List LocalArc
arcs_of_starts sides piece u x t back starts =
    flat_map (λ s. edge_arcs x s.1 (destination sides piece x (if s.0 == u then t else back) s.1)) starts

-- the arcs of x that moves make, those of earlier moves first
abbrev pub arcs_onward : Bool → List ℕ → List Move → List LocalArc
arcs_onward directed x moves = flat_map (arcs_by directed x) moves

-- the moves by t, from each vector in order
abbrev pub moves_by : List Side → ℤ → List (List ℕ) → List ℤ → List Move
moves_by sides piece vectors t = flat_map (λ y. moves_from sides piece y t) vectors

-- the edges by t that touch x, in order, by their starts and lengths
abbrev pub touching_starts : List Side → ℤ → List (List ℕ) → List ℕ → List ℤ → List (ℕ × ℕ)
touching_starts sides piece vectors x t =
    map (λ m. (vertex_among vectors m.from, m.len)) (filter (λ m. same_vector m.from x || same_vector m.to x) (moves_by sides piece vectors t))

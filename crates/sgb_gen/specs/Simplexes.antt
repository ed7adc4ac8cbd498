-- The graphs of simplexes [GB_BASIC, simplex].
use Rattle.std.specs.Prelude.{ℕ, ◌+◌, ◌-◌, nat_lt, ℤ, Bool, ◌&&◌, List, [], ◌∷◌, ◌++◌, length, map, filter, slice_index, slice_set, Result, Ok, codes}
use Rattle.std.specs.Fmt.{signed_decimal}
use Rattle.std.specs.List.{flat_map, range_with_len}
use Rattle.sgb_vec.specs.Results.{and_then}
use Rattle.sgb_vec.specs.Bounds.{simplex_of}
use Rattle.sgb_vec.specs.Sums.{BoundedSum, bounded_sums, sum_of}
use Rattle.sgb_vec.specs.declared.panics.Panic.{Panic}
use Rattle.sgb_graph.specs.Descriptions.{Description}
use Rattle.sgb_graph.specs.IdTexts.{flag_text}
use Rattle.sgb_gen.specs.declared.params.SimplexParams.{SimplexParams}
use Rattle.sgb_moves.specs.VectorMoves.{Move}
use Rattle.sgb_gen.specs.VectorGraphs.{VectorGraph, call_text, described_by}

-- an accepted simplex: n and n0 to n4 as its official name has them, the sum and the bounds that they stand for, and the flag
pub record SimplexData : Type 0 where
  pub params : List ℤ
  pub sum : BoundedSum
  pub directed : Bool

-- the simplex of these parameters; or, in order, a negative n, too many dimensions, n above 1,000,000,000, too many vectors
abbrev pub accepted_simplex : SimplexParams → Result SimplexData Panic
accepted_simplex p = and_then (simplex_of p.n p.n0 p.n1 p.n2 p.n3 p.n4) (λ shape.
    and_then (sum_of p.n shape.sizes) (λ s.
    Ok (record { params = shape.params; sum = s; directed = p.directed })))

-- two places in a vector
pub record Places : Type 0 where
  pub lower : ℕ
  pub higher : ℕ

-- the pairs of places j < k of a vector of n entries, in lexicographic order
abbrev pub pairs_of_places : ℕ → List Places
pairs_of_places n = flat_map (λ j. map (λ k. record { lower = j; higher = k }) (range_with_len (j + 1) (n - (j + 1)))) (range_with_len 0 n)

-- a unit of v can go from one place to another: there is one, and room for it below the bound
abbrev pub can_move_unit : List ℕ → List ℕ → ℕ → ℕ → Bool
can_move_unit bounds v from to = nat_lt 0 (slice_index v from) && nat_lt (slice_index v to) (slice_index bounds to)

-- v with a unit gone from one place to another
abbrev pub unit_moved : List ℕ → ℕ → ℕ → List ℕ
unit_moved v from to = slice_set (slice_set v from (slice_index v from - 1)) to (slice_index v to + 1)

-- the moves to v, for each pair of places: from the vector that v becomes when a unit goes to the higher place
abbrev pub moves_to : List ℕ → List ℕ → List Move
moves_to bounds v =
    map (λ at. record { from = unit_moved v at.lower at.higher; to = v; len = 1 })
    (filter (λ at. can_move_unit bounds v at.lower at.higher) (pairs_of_places (length v)))

-- the id of an accepted simplex: simplex(n,n0,n1,n2,n3,n4,directed)
unfoldable pub simplex_id : SimplexData → List ℕ
simplex_id s = call_text (codes "simplex") (map signed_decimal s.params ++ flag_text s.directed ∷ [])

-- the vertices of an accepted simplex: the vectors of its bounded sum
abbrev pub simplex_vectors : SimplexData → List (List ℕ)
simplex_vectors s = bounded_sums s.sum.total s.sum.bounds

-- the moves of an accepted simplex: for each vertex in order those to it
unfoldable pub moves_of_simplex : SimplexData → List Move
moves_of_simplex s = flat_map (moves_to s.sum.bounds) (simplex_vectors s)

-- the graph of an accepted simplex, whose vertices are vectors
abbrev pub simplex_vector_graph : SimplexData → VectorGraph
simplex_vector_graph s = record { id = simplex_id s; directed = s.directed; vectors = simplex_vectors s; moves = moves_of_simplex s }

-- the graph of simplex(n,n0,n1,n2,n3,n4,directed), or why it is refused
abbrev pub simplex : SimplexParams → Result Description Panic
simplex p = and_then (accepted_simplex p) (λ s. Ok (described_by (simplex_vector_graph s)))

-- What accepted simplexes and subsets keep; shifts of one unit, and the moves by some pairs of places.
use Rattle.std.specs.Prelude.{◌≡◌, ◌≤◌, ◌+◌, ◌-◌, ℕ, ℤ, Bool, List, filter, length, map}
use Rattle.std.specs.List.{range_with_len}
use Rattle.sgb_vec.specs.Limits.{most_dimensions, most_vertices}
use Rattle.sgb_vec.specs.Sums.{BoundedSum, bounded_sums}
use Rattle.sgb_gen.specs.Simplexes.{Places, can_move_unit, unit_moved}
use Rattle.sgb_moves.specs.VectorMoves.{Move}

-- six parameters and the sum of an accepted simplex, or of accepted subsets: not too many bounds or vectors
pub record IsAcceptedSum (params : List ℤ) (s : BoundedSum) : Type 0 where
  pub parameters : length params ≡ 6
  pub dimensions : length s.bounds ≤ most_dimensions + 1
  pub vertices : length (bounded_sums s.total s.bounds) ≤ most_vertices

-- the pairs of place j and a higher one of a vector of n entries, in order
abbrev pub pairs_from : ℕ → ℕ → List Places
pairs_from n j = map (λ k. record { lower = j; higher = k }) (range_with_len (j + 1) (n - (j + 1)))

-- a unit of v can go from the lower place to the higher one
abbrev pub can_shift : List ℕ → List ℕ → Places → Bool
can_shift bounds v at = can_move_unit bounds v at.lower at.higher

-- v with a unit gone from the lower place to the higher one
abbrev pub shifted : List ℕ → Places → List ℕ
shifted v at = unit_moved v at.lower at.higher

-- the moves to v by these pairs of places: from each vector that v becomes when a unit goes to the higher place
abbrev pub moves_by : List ℕ → List ℕ → List Places → List Move
moves_by bounds v pairs =
    map (λ at. record { from = shifted v at; to = v; len = 1 }) (filter (can_shift bounds v) pairs)

-- Counts of the vectors of a bounded sum, as a row over its sums [GB_BASIC, simplex].
use Rattle.std.specs.Prelude.{◌≡◌, ◌<◌, ◌≤◌, ℕ, Bool, ◌&&◌, nat_le, min, List, length, slice_index}
use Rattle.std.specs.List.{list_any}
use Rattle.sgb_vec.specs.Limits.{most_vertices}
use Rattle.sgb_vec.specs.Sums.{bounded_sums}

-- how many vectors within the bounds add to k
abbrev pub count_of_sum : ℕ → List ℕ → ℕ
count_of_sum k bounds = length (bounded_sums k bounds)

-- at each place k up to n the row has how many vectors within the bounds add to k; 0 stands after its end
pub record CountsSums (n : ℕ) (row bounds : List ℕ) : Type 0 where
  pub at : (k : ℕ) → k ≤ n → slice_index row k ≡ count_of_sum k bounds

-- some sum up to n has more vectors within the bounds than a graph can have vertices
pub record HasGreatSum (n : ℕ) (bounds : List ℕ) : Type 0 where
  pub at : ℕ
  pub low : at ≤ n
  pub great : most_vertices < count_of_sum at bounds

-- three bounds of this size have more than 1,000,000,000 vectors that add to it: 44,721 times 44,722, by 2
abbrev pub great_bound : ℕ
great_bound = 44_720

-- n and a, b and one of the others are of this size or above
abbrev pub has_great_three : ℕ → ℕ → ℕ → List ℕ → Bool
has_great_three n a b others = nat_le great_bound (min (min n a) b) && list_any (λ c. nat_le great_bound c) others

-- Counts that are kept, by which the place of a vector of a bounded sum is found [GB_BASIC, simplex].
use Rattle.std.specs.Prelude.{◌≡◌, ◌<◌, ◌≤◌, ◌+◌, ◌-◌, ℕ, List, [], ◌∷◌, length, drop, slice_index}
use Rattle.std.specs.List.{slice_index_or}
use Rattle.sgb_vec.specs.Sums.{bounded_sums}

-- how many vectors within the bounds add to n
abbrev pub count_of_sum : ℕ → List ℕ → ℕ
count_of_sum n bounds = length (bounded_sums n bounds)

-- how many vectors within the bounds add to at most n: an entry in front of each makes up for the rest
abbrev pub count_up_to : ℕ → List ℕ → ℕ
count_up_to n bounds = count_of_sum n (n ∷ bounds)

-- the row has that of each sum up to total
pub record HasCounts (total : ℕ) (row bounds : List ℕ) : Type 0 where
  pub long : length row ≡ total + 1
  pub at : (n : ℕ) → n ≤ total → slice_index row n ≡ count_up_to n bounds

-- row number j has those of the last j bounds
abbrev pub HaveCounts : ℕ → List (List ℕ) → List ℕ → Type 0
HaveCounts total rows bounds =
    (j : ℕ) → j < length rows → HasCounts total (slice_index_or rows j []) (drop (length bounds - j) bounds)

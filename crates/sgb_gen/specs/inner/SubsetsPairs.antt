-- How many ordered pairs of subsets have a wanted size in common, and the table by which they are counted.
use Rattle.std.specs.Prelude.{◌≡◌, ℕ, zero, suc, ◌+◌, ◌*◌, ◌%◌, ◌^◌, ◌<◌, ◌≤◌, max, List, [], ◌∷◌, slice_index}
use Rattle.sgb_vec.specs.Sums.{bounded_sums}
use Rattle.sgb_gen.specs.inner.SubsetsCounts.{HasNoneAbove, wanted_among}

-- how many pairs of one of us and one of vs have a wanted size in common, where `common` elements are in common before
abbrev pub pairs_among : ℕ → ℕ → List (List ℕ) → List (List ℕ) → ℕ
pairs_among size_bits common [] vs = 0
pairs_among size_bits common (u ∷ us) vs = wanted_among size_bits common u vs + pairs_among size_bits common us vs

-- how many pairs of vectors within the bounds have, of which one adds to `first` and one to `second`
abbrev pub pairs_of_sums : ℕ → List ℕ → ℕ → ℕ → ℕ → ℕ
pairs_of_sums size_bits bounds first second common =
    pairs_among size_bits common (bounded_sums first bounds) (bounded_sums second bounds)

-- what a function of the numbers below n adds to
abbrev pub added : ℕ → (ℕ → ℕ) → ℕ
added zero f = 0
added (suc n) f = added n f + f n

-- how many pairs have, of which one adds to less than `first` and one to less than `second`
abbrev pub pairs_below : ℕ → List ℕ → ℕ → ℕ → ℕ → ℕ
pairs_below size_bits bounds first second common =
    added first (λ i. added second (λ j. pairs_of_sums size_bits bounds i j common))

-- how many cells a table has, for sums up to the total, and at most so many elements in common before
abbrev pub cell_count : ℕ → ℕ → ℕ
cell_count total most = (total + 1) * (total + 1) * (most + 1)

-- where the cell of two sums and of what is in common before stands
abbrev pub place_of_pairs : ℕ → ℕ → ℕ → ℕ → ℕ → ℕ
place_of_pairs total most first second common = (first * (total + 1) + second) * (most + 1) + common

-- there is room for them
pub record HasRoom (total most : ℕ) : Type 0 where
  pub total_small : total < 512
  pub most_small : most < 512
  pub few : cell_count total most ≤ 262144

-- the cells that are used, as 64 bits keep them
abbrev pub HasCounts : ℕ → ℕ → (ℕ → ℕ → ℕ → ℕ) → List ℕ → Type 0
HasCounts total most counts table =
    (first second common : ℕ) → max first second + common ≤ total → common ≤ most
    → slice_index table (place_of_pairs total most first second common) ≡ counts first second common % 2 ^ 64

-- those before a place are of some counts, and those from it on of others
pub record IsTurned (total most turned : ℕ) (low high : ℕ → ℕ → ℕ → ℕ) (table : List ℕ) : Type 0 where
  pub before : (first second common : ℕ) → max first second + common ≤ total → common ≤ most → place_of_pairs total most first second common < turned → slice_index table (place_of_pairs total most first second common) ≡ low first second common % 2 ^ 64
  pub from : (first second common : ℕ) → max first second + common ≤ total → common ≤ most → turned ≤ place_of_pairs total most first second common → slice_index table (place_of_pairs total most first second common) ≡ high first second common % 2 ^ 64

-- how many pairs have, of which neither one adds to more: a running sum
abbrev pub pairs_up_to : ℕ → List ℕ → ℕ → ℕ → ℕ → ℕ
pairs_up_to size_bits bounds first second common = pairs_below size_bits bounds (first + 1) (second + 1) common

-- the cells of lesser sums are running sums
abbrev pub AreSummed : ℕ → ℕ → ℕ → List ℕ → ℕ → ℕ → ℕ → List ℕ → Type 0
AreSummed total most size_bits bounds first second common table =
    (i j : ℕ) → i < first → j < second → slice_index table (place_of_pairs total most i j common) ≡ pairs_up_to size_bits bounds i j common % 2 ^ 64

-- no size between the most elements in common and the total is wanted
abbrev pub HasMost : ℕ → ℕ → ℕ → Type 0
HasMost size_bits total most = most < total → HasNoneAbove size_bits most

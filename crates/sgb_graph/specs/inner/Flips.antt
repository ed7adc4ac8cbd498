-- How a generator of random numbers goes on from cycle to cycle [GB_FLIP, gb_next_rand and gb_flip_cycle].
use Rattle.std.specs.Prelude.{◌≡◌, ℕ, ◌+◌, ◌-◌, ◌*◌, ◌/◌, ◌%◌, ◌^◌, ◌<◌, ◌≤◌, List, length, slice_index}
use Rattle.sgb_graph.specs.Draws.{modulus, difference, y_number}
use Rattle.sgb_graph.specs.Flips.{FlipData}

-- the generator of these parts
abbrev pub flip_data : List ℕ → ℕ → FlipData
flip_data cycle still = record { numbers = cycle; left = still }

-- 55 numbers below 2^31
pub record IsCycle (numbers : List ℕ) : Type 0 where
  pub many : length numbers ≡ 55
  pub below : (i : ℕ) → i < 55 → slice_index numbers i < modulus

-- a cycle of which at most 54 numbers are still to come
pub record IsFlip (numbers : List ℕ) (left : ℕ) : Type 0 where
  pub cycle : IsCycle numbers
  pub few : left ≤ 54

-- number i of the next cycle, from 0: the 55th before it less the 24th before it, which is one of the last
-- cycle for the first 24
pub record IsNextCycle (old new : List ℕ) : Type 0 where
  pub cycle : IsCycle new
  pub early : (i : ℕ) → i < 24 → slice_index new i ≡ difference (slice_index old i) (slice_index old (i + 31))
  pub late : (i : ℕ) → 24 ≤ i → i < 55 → slice_index new i ≡ difference (slice_index old i) (slice_index new (i - 24))

-- X(i) for i from 1 to 55
abbrev pub first_x : ℕ → ℕ → ℕ
first_x seed i = y_number seed (21 * i % 55)

-- the first cycle, X(1) to X(55)
pub record IsFirstCycle (seed : ℕ) (numbers : List ℕ) : Type 0 where
  pub cycle : IsCycle numbers
  pub value : (i : ℕ) → i < 55 → slice_index numbers i ≡ first_x seed (i + 1)

-- the next number of the cycle from its end, or the last one of the next cycle where none is still to come
pub record HandsOut (old : List ℕ) (left result : ℕ) (new : List ℕ) (left_after : ℕ) : Type 0 where
  pub flip : IsFlip new left_after
  pub value : result ≡ slice_index new left_after
  pub inside : 1 ≤ left → (new ≡ old) × (left_after + 1 ≡ left)
  pub at_end : left ≡ 0 → IsNextCycle old new × (left_after ≡ 54)

-- a number below 2^31 rotated right by one place within 31 bits
abbrev pub rotated_once : ℕ → ℕ
rotated_once n = n / 2 + n % 2 * 2 ^ 30

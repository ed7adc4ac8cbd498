-- The random numbers of GB_FLIP, by one formula [GB_FLIP, gb_flip_cycle, gb_init_rand and gb_unif_rand].
use Rattle.std.specs.Prelude.{◌≡◌, ℕ, zero, suc, ◌+◌, ◌-◌, ◌*◌, ◌/◌, ◌%◌, ◌^◌, ◌<◌, ◌≤◌, ℤ, pos, negsuc, Option, List, [], ◌∷◌, map, reverse, find, nat_lt, unwrap_or, slice_index}
use Rattle.std.specs.List.{range_with_len}

-- the numbers are from 0 to 2^31 - 1, and their differences are taken modulo 2^31
abbrev pub modulus : ℕ
modulus = 2 ^ 31

-- a - b modulo 2^31
abbrev pub difference : ℕ → ℕ → ℕ
difference a b = (a + modulus - b) % modulus

-- a start value modulo 2^31
abbrev pub seed_of : ℤ → ℕ
seed_of (pos n) = n % modulus
seed_of (negsuc n) = modulus - 1 - n % modulus

-- the seed rotated right by k places within 31 bits
abbrev pub rotated : ℕ → ℕ → ℕ
rotated seed k = seed / 2 ^ (k % 31) + seed % 2 ^ (k % 31) * 2 ^ (31 - k % 31)

-- Y: the seed, 1, and then each is the last but one less the last, less the seed rotated as often as the last one's number says
unfoldable pub y_number : ℕ → ℕ → ℕ
y_number seed zero = seed
y_number seed (suc zero) = 1
y_number seed (suc (suc k)) = difference (difference (y_number seed k) (y_number seed (suc k))) (rotated seed (k + 1))

-- X(55 + k), X(54 + k), .., X(1): X(55) is Y(0), and X(21 k mod 55) is Y(k) for k from 1 to 54, so that X(i) is Y(21 i mod 55),
-- as 21 * 21 is 1 modulo 55; each after these is the 55th before it less the 24th before it
unfoldable pub back_to_first : ℕ → ℕ → List ℕ
back_to_first seed zero = map (λ i. y_number seed (21 * i % 55)) (reverse (range_with_len 1 55))
back_to_first seed (suc k) = let xs = back_to_first seed k in difference (slice_index xs 54) (slice_index xs 23) ∷ xs

-- X(n) for n from 1 on, by this seed
abbrev pub x_number : ℕ → ℕ → ℕ
x_number seed n = slice_index (back_to_first seed (n - 55)) (55 - n)

-- draw number t, from 0: X(329) down to X(276), then X(385) down to X(331), and so on, of each 55 numbers the last one first
abbrev pub draw : ℕ → ℕ → ℕ
draw seed t = x_number seed (55 * (5 + (t + 1) / 55) + 55 - (t + 1) % 55)

-- a uniform draw below m throws away the draws from this bound on
abbrev pub bound_below : ℕ → ℕ
bound_below m = modulus - modulus % m

-- the uniform draw below m from draw k on is this number, made of draw `last`: the first from k on that is not thrown away
pub record IsUniformDraw (seed m k number last : ℕ) : Type 0 where
  pub from_place : k ≤ last
  pub taken : draw seed last < bound_below m
  pub thrown_away : (t : ℕ) → k ≤ t → t < last → bound_below m ≤ draw seed t
  pub value : number ≡ draw seed last % m

-- the number of the first of so many draws from k on that a uniform draw below m does not throw away
abbrev pub first_taken : ℕ → ℕ → ℕ → ℕ → Option ℕ
first_taken seed m k many = find (λ t. nat_lt (draw seed t) (bound_below m)) (range_with_len k many)

-- of so many draws in a row, wherever they begin, a uniform draw takes one
abbrev pub most_tried : ℕ
most_tried = 1760

-- the number of the draw that a uniform draw below m from draw k on is made of
abbrev pub used_draw : ℕ → ℕ → ℕ → ℕ
used_draw seed m k = unwrap_or (first_taken seed m k most_tried) k

-- so many draws, from draw k on
unfoldable pub plain_draws : ℕ → ℕ → ℕ → List ℕ
plain_draws seed k zero = []
plain_draws seed k (suc count) = draw seed k ∷ plain_draws seed (k + 1) count

-- so many uniform draws below m, from draw k on
unfoldable pub uniform_draws : ℕ → ℕ → ℕ → ℕ → List ℕ
uniform_draws seed m k zero = []
uniform_draws seed m k (suc count) = draw seed (used_draw seed m k) % m ∷ uniform_draws seed m (used_draw seed m k + 1) count

-- a generator that was started from this value stands at draw k: it holds a whole cycle of numbers,
-- X(55 c + 1) to X(55 c + 55) where c is 5 + k / 55, and so many of them are still to come
pub record IsAtDraw (start : ℤ) (k : ℕ) (numbers : List ℕ) (left : ℕ) : Type 0 where
  pub cycle : numbers ≡ map (λ i. x_number (seed_of start) (55 * (5 + k / 55) + i)) (range_with_len 1 55)
  pub still : left ≡ 54 - k % 55

-- Lemmas on the order of bytes in the checksum, and on the sum made byte by byte.
use Rattle.std.specs.Prelude.{◌≡◌, ℕ, ◌+◌, ◌*◌, ◌/◌, ◌%◌, ◌^◌, ◌<◌, ◌≤◌, Bool, true, not, ◌&&◌, ◌||◌, List, [], ◌∷◌, length, take, fold, refl, nat_lt, ◌==◌, slice_index, slice_index_or as get_or}
use Rattle.sgb_vec.proofs.Common.{arith, ◌∙◌, rules, mul_assoc, mul_comm, add-mul, pow-suc, add-mul-mod_self_right, mod-add-div', mod-eq_of_lt, two-pow-succ, take_more, fold-append, prefix_len-le-length, mod_below, Decides-eqb, Decides-ltb, nat_tests, get_or_default_zero}
use Rattle.sgb_graph.proofs.TestLemmas.{at_each_below, both_first, both_second, where_passes}
use Rattle.sgb_file.specs.inner.Layouts.{checksum_after, checksum_from, place_of, places, value_after, value_from}
use Rattle.sgb_file.specs.Checksum.{characters, checksum_prime, value_of_byte, is_character, weighted_sum}

-- the byte has a place below 96, where it stands
abbrev pub has_place : ℕ → Bool
has_place byte = nat_lt (value_of_byte byte) 96 && slice_index characters (value_of_byte byte) == byte

-- at the place stands a character that has this place
abbrev pub has_character : ℕ → Bool
has_character k = is_character (slice_index characters k) && value_of_byte (slice_index characters k) == k

-- each character has a place
pub character_has_place : (byte : ℕ) → is_character byte ≡ true → has_place byte ≡ true
character_has_place byte h =
    where_passes (is_character byte) (has_place byte) (at_each_below (λ b. not (is_character b) || has_place b) 127 refl byte (grind (arith, nat_tests, h))) h

pub place_below : (byte : ℕ) → is_character byte ≡ true → value_of_byte byte < 96
place_below byte h = (Decides-ltb (value_of_byte byte) 96).0 (both_first _ _ (character_has_place byte h))

pub character_at_place : (byte : ℕ) → is_character byte ≡ true → slice_index characters (value_of_byte byte) ≡ byte
character_at_place byte h = (Decides-eqb _ byte).0 (both_second _ _ (character_has_place byte h))

-- each place has a character
pub place_allowed : (k : ℕ) → k < 96 → is_character (slice_index characters k) ≡ true
place_allowed k h = both_first _ _ (at_each_below has_character 96 refl k h)

pub place_back : (k : ℕ) → k < 96 → value_of_byte (slice_index characters k) ≡ k
place_back k h = (Decides-eqb _ k).0 (both_second _ _ (at_each_below has_character 96 refl k h))

-- a remainder may stand for its number in a sum modulo p
pub remainder_in_sum : (n k w p : ℕ) → (n % p * k + w) % p ≡ (n * k + w) % p
remainder_in_sum n k w p = grind (arith, mod-add-div' n p, add-mul, mul_assoc, mul_comm p k, add-mul-mod_self_right (n % p * k + w) (n / p * k) p)

-- a number that is doubled and added to may stand for its remainder
pub remainder_doubled : (n v p : ℕ) → (2 * (n % p) + v) % p ≡ (2 * n + v) % p
remainder_doubled n v p = grind (arith, mul_comm, remainder_in_sum n 2 v p)

-- the checksum after some bytes may begin at the remainder
pub from_remainder : (sum : ℕ) (few : List ℕ) → 0 < length few → checksum_from (sum % checksum_prime) few ≡ checksum_from sum few
unfolding checksum_from checksum_after
from_remainder sum [] some = absurd (omega (arith, some))
from_remainder sum (b ∷ few) some = grind (arith, remainder_doubled)

-- a value that grows by a byte
value_doubled : (value byte i : ℕ) → value + 256 ≤ 2 ^ (33 + i) → byte < 256 → 2 * value + byte + 256 ≤ 2 ^ (33 + (i + 1))
value_doubled value byte i h small = grind (arith, two-pow-succ (33 + i))

-- a place is at most the number of characters
pub place_small : (byte : ℕ) → place_of byte < 256
unfolding place_of
place_small byte = omega (arith, prefix_len-le-length (λ c. not (c == byte)) characters)

-- a value of few bits has room for few bytes, and then the checksum is its remainder
value_counts : (bytes : List ℕ) (value i : ℕ) → value + 256 ≤ 2 ^ (33 + i) → i + length bytes ≤ 31
    → value_from value bytes % checksum_prime ≡ checksum_from (value % checksum_prime) bytes
unfolding value_from checksum_from checksum_after
value_counts [] value i room few = refl
value_counts (b ∷ bytes) value i room few = search (rules, value_doubled, place_small, mod-eq_of_lt, remainder_doubled, place_of, value_from, checksum_prime, checksum_from, value_counts bytes (2 * value + place_of b) (i + 1) (value_doubled value (place_of b) i room (place_small b)) (omega (arith, few)))

-- the checksum after few bytes more
pub few_counted : (sum value : ℕ) (bytes : List ℕ) → sum < 2 ^ 32 → 0 < length bytes → length bytes ≤ 31
    → value ≡ value_from sum bytes % checksum_prime → value ≡ checksum_from sum bytes
few_counted sum value bytes small some few e = grind (arith, value_counts bytes sum 0, from_remainder)

-- the value after a byte more
pub byte_valued : (value after next byte : ℕ) (bytes : List ℕ) (i : ℕ) → i < length bytes → byte ≡ get_or bytes i 0
    → after ≡ value_from value (take i bytes) → next ≡ value_after after byte → next ≡ value_from value (take (i + 1) bytes)
unfolding value_from
byte_valued value after next byte bytes i within is e f = grind (arith, fold-append, take_more bytes i 0)

-- doubling, adding a value, and then weighing by k
pub weighed : (a v k : ℕ) → (2 * a + v) * k ≡ a * (k * 2) + v * k
weighed a v k = grind (arith, add-mul, mul_assoc)

-- the sum made byte by byte from a is the sum of the weighted values, with a before them
pub running_from : (p : ℕ) → 0 < p → (bytes : List ℕ) (a : ℕ) → a < p
    → fold (λ x byte. (2 * x + value_of_byte byte) % p) a bytes ≡ (a * 2 ^ length bytes + weighted_sum bytes) % p
unfolding weighted_sum
running_from p positive [] a h = grind (arith, mod-eq_of_lt)
running_from p positive (byte ∷ bytes) a h =
    let k : ℕ = 2 ^ length bytes in
    let open_up = remainder_in_sum (2 * a + value_of_byte byte) k (weighted_sum bytes) p in
    grind (arith, mod_below, pow-suc, weighed, k, open_up, running_from p positive bytes ((2 * a + value_of_byte byte) % p))

-- the table of places has each byte's
length-places : length places ≡ 256
unfolding places place_of
length-places = refl

pub place_in_table : (byte d : ℕ) → byte < 256 → get_or places byte d ≡ place_of byte
unfolding places place_of
place_in_table byte d h =
    get_or_default_zero places byte d (rw length-places h)
    ∙ (Decides-eqb _ _).0 (at_each_below (λ b. get_or places b 0 == place_of b) 256 refl byte h)

-- the place of a digit
pub digit_place : (digit : ℕ) → digit < 10 → place_of (48 + digit) ≡ digit
unfolding place_of
digit_place digit h = (Decides-eqb _ digit).0 (at_each_below (λ d. place_of (48 + d) == d) 10 refl digit h)

-- The number that digits in a radix write, digit by digit.
use Rattle.sgb_vec.proofs.Common.{◌≡◌, ℕ, zero, suc, ◌+◌, ◌*◌, ◌^◌, ◌<◌, ◌≤◌, List, [], ◌∷◌, length, take, get_or, arith, digit_value, AllDigits, IsNumeral, digits_value}
use Rattle.std.proofs.lemmas.Int.Digits.{digits_value_more}
use Rattle.std.proofs.lemmas.Str.Parse.{digits_value-take-le}

-- the digit at a place is one
pub digit_below : (radix : ℕ) (digits : List ℕ) (i : ℕ) → AllDigits radix digits → i < length digits → digit_value (get_or digits i 0) < radix
digit_below radix [] i all h = absurd (omega (arith, h))
digit_below radix (c ∷ digits) zero all h = all.0
digit_below radix (c ∷ digits) (suc i) all h = digit_below radix digits i all.1 (omega (arith, h))

-- one more digit of some digits
pub record NextDigit (radix : ℕ) (digits : List ℕ) (i : ℕ) : Type 0 where
  pub below : digit_value (get_or digits i 0) < radix
  pub more : digits_value radix (take (i + 1) digits) ≡ digits_value radix (take i digits) * radix + digit_value (get_or digits i 0)
  pub fits : digits_value radix (take (i + 1) digits) < 2 ^ 128

-- the digit at a place goes on the number before it
pub next_digit : (radix : ℕ) (digits : List ℕ) (i : ℕ) → 2 ≤ radix → IsNumeral radix digits → digits_value radix digits < 2 ^ 128 → i < length digits → NextDigit radix digits i
next_digit radix digits i least numeral fits h = grind (arith, digit_below, digits_value_more, digits_value-take-le)

-- Numbers read back from their decimals.
use Rattle.sgb_vec.proofs.Common.{lt_of_lt_of_le, ◌≡◌, ℕ, zero, suc, ◌^◌, ◌<◌, ◌≤◌, cond, List, [], ◌∷◌, length, take, Some, decimal, refl, arith, rules, pow-le-pow_right, is_digit, AllDigits, digits_value, decimal_is_IsNumeral, length-decimal-le, drop_all, take_while-cons}
use Rattle.std.proofs.lemmas.Int.Digits.{digits_value-lt}
use Rattle.sgb_vec.specs.Digits.{leading_digits, leading_number}

-- some digits in the radix, so many at most
pub record AreDigits (radix most : ℕ) (digits : List ℕ) : Type 0 where
  pub all : AllDigits radix digits
  pub short : length digits ≤ most

-- one byte more
pub first_byte : (radix most byte : ℕ) (text : List ℕ) → leading_digits radix (suc most) (byte ∷ text) ≡ cond (is_digit byte radix) (byte ∷ leading_digits radix most text) []
first_byte radix most byte text = take_while-cons (λ b. is_digit b radix) byte (take most text)

-- what a text begins with are digits
pub leading_are_digits : (radix most : ℕ) (text : List ℕ) → AreDigits radix most (leading_digits radix most text)
leading_are_digits radix (suc most) (byte ∷ text) = grind (arith, first_byte, leading_are_digits radix most text)
leading_are_digits radix _ _ = record { all = tt; short = omega arith }

-- digits begin with all of them
pub leading_of_digits : (radix most : ℕ) (digits : List ℕ) → AreDigits radix most digits → leading_digits radix most digits ≡ digits
leading_of_digits radix zero [] are = refl
leading_of_digits radix zero (byte ∷ digits) are = absurd (omega (arith, are.short))
leading_of_digits radix (suc most) [] are = refl
leading_of_digits radix (suc most) (byte ∷ digits) are = grind (arith, first_byte, leading_of_digits radix most digits (record { all = are.all.1; short = omega (arith, are.short) }))

-- digits write a number below a power of the radix
pub digits_are_below : (radix most : ℕ) (digits : List ℕ) → 0 < radix → AreDigits radix most digits → digits_value radix digits < radix ^ most
digits_are_below radix most digits some are = lt_of_lt_of_le (digits_value-lt radix digits are.all) (pow-le-pow_right some are.short)

-- the decimal of a number below 2 ^ 32 reads as the number
pub decimal_is_read_back : (entry : ℕ) → entry < 2 ^ 32 → leading_number 10 10 (decimal entry) ≡ Some (entry, [])
decimal_is_read_back entry h =
    let numeral = decimal_is_IsNumeral entry (omega arith) in
    let short : length (decimal entry) ≤ 10 = length-decimal-le 10 entry (omega arith) (omega arith) (omega arith) in
    let all = leading_of_digits 10 10 (decimal entry) (record { all = numeral.0.1; short = short }) in
    search (rules, all, drop_all)

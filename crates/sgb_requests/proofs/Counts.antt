-- Numbers of 1 to 18 digits, as `parse` reads them.
use Rattle.sgb_vec.proofs.Common.{◌≢◌, ◌≤◌, ◌<◌, ◌^◌, ℕ, List, length, get_or, MatchOption, Result, arith, result_ok, AllDigits, ParsesUnsigned, digits_value}
use Rattle.std.proofs.lemmas.Str.Parse.{IsNumeralModel, digits_value_short, numerals_by_value, tells_digits}
use Rattle.sgb_text.specs.Numbers.{IsNumber}
use Rattle.sgb_expr.specs.Numbers.{most_digits}

-- std's words for digits and their value
own : IsNumeralModel (AllDigits 10) (digits_value 10)
own = numerals_by_value (AllDigits 10) tells_digits

-- the number that 18 digits write fits 64 bits
value_fits : (text : List ℕ) → AllDigits 10 text → length text ≤ 18 → digits_value 10 text < 2 ^ 64
value_fits text digits short = let low : digits_value 10 text < 10 ^ 18 = digits_value_short own text 18 digits short in omega arith

-- of a text of at most 18 bytes with no plus before it, `parse` gives a number exactly where it is 1 to 18 digits
pub count_read : {E : Type 0} (text : List ℕ) (r : Result ℕ E) → ParsesUnsigned 64 10 text r → length text ≤ 18 → get_or text 0 0 ≢ 43
    → MatchOption (result_ok r) ((k : ℕ) → IsNumber 10 most_digits text k → ⊥) (IsNumber 10 most_digits text)
count_read {E} text r parsed short plain = grind (arith, value_fits)

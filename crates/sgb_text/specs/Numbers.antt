-- Numbers as texts.
use Rattle.std.specs.Prelude.{◌≡◌, ◌≤◌, ℕ, List, length}
use Rattle.std.specs.Str.Parse.{IsNumeral, digits_value}

-- digits in the radix, one or more and at most so many, leading zeros allowed, that write the number
pub record IsNumber (radix most : ℕ) (text : List ℕ) (number : ℕ) : Type 0 where
  pub numeral : IsNumeral radix text
  pub short : length text ≤ most
  pub writes : number ≡ digits_value radix text

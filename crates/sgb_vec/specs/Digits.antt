-- The digits that a text begins with, and the number that they write.
use Rattle.std.specs.Prelude.{ℕ, List, Option, Some, None, drop, length, nat_lt, take, if◌then◌else◌}
use Rattle.std.specs.Char.{is_digit}
use Rattle.std.specs.List.{take_while}
use Rattle.std.specs.Str.Parse.{digits_value}

-- the digits in the radix that the text begins with, so many at most
abbrev pub leading_digits : ℕ → ℕ → List ℕ → List ℕ
leading_digits radix most text = take_while (λ byte. is_digit byte radix) (take most text)

-- the number that these digits write, and the text after them, where there are any
abbrev pub leading_number : ℕ → ℕ → List ℕ → Option (ℕ × List ℕ)
leading_number radix most text =
    let digits = leading_digits radix most text in
    if nat_lt 0 (length digits) then Some (digits_value radix digits, drop (length digits) text) else None

-- The texts of numbers in expressions.
use Rattle.std.specs.Prelude.{ℕ, ℤ, pos, neg_ℤ, List, codes}
use Rattle.sgb_text.specs.Languages.{After, As, Or}
use Rattle.sgb_text.specs.Numbers.{IsNumber}

-- a number has at most this many decimal digits
abbrev pub most_digits : ℕ
most_digits = 18

-- an integer: an optional `-`, and 1 to 18 decimal digits
abbrev pub IsInteger : List ℕ → ℤ → Type 0
IsInteger = Or (After (codes "-") (As (λ n. neg_ℤ (pos n)) (IsNumber 10 most_digits))) (As pos (IsNumber 10 most_digits))

-- bits: 1 to 18 decimal digits, or `0x` and 1 to 32 hexadecimal digits of either case
abbrev pub IsBits : List ℕ → ℕ → Type 0
IsBits = Or (After (codes "0x") (IsNumber 16 32)) (IsNumber 10 most_digits)

-- Reading numbers from the beginning of a text.
use Rattle.std.specs.Prelude.{ℕ, zero, suc, ℤ, pos, neg_ℤ, codes, List, [], ◌∷◌, length, Result, Ok, Err, drop}
use Rattle.std.specs.Str.Parse.{digits_value}
use Rattle.sgb_vec.specs.Digits.{leading_digits}
use Rattle.sgb_text.proofs.Readings.{◌>>=◌, either, fixed_at}
use Rattle.sgb_expr.specs.Numbers.{most_digits}

-- bits have at most this many hexadecimal digits
abbrev pub most_hex_digits : ℕ
most_hex_digits = 32

-- the number that these digits write, with which the text begins
abbrev pub number_of_digits : ℕ → List ℕ → List ℕ → Result (ℕ × List ℕ) ℕ
number_of_digits radix [] text = Err (length text)
number_of_digits radix (digit ∷ digits) text = Ok (digits_value radix (digit ∷ digits), drop (length (digit ∷ digits)) text)

-- the number with which the text begins, of as many digits as can be taken
abbrev pub number_at : ℕ → ℕ → List ℕ → Result (ℕ × List ℕ) ℕ
number_at radix most text = number_of_digits radix (leading_digits radix most text) text

-- the number after a sign
abbrev pub signed_at : List ℕ → Result (ℤ × List ℕ) ℕ
signed_at text = fixed_at (codes "-") text >>= λ rest. number_at 10 most_digits rest >>= λ x. Ok (neg_ℤ (pos x.0), x.1)

-- the integer with which the text begins
abbrev pub integer_at : List ℕ → Result (ℤ × List ℕ) ℕ
integer_at text = either (signed_at text) (number_at 10 most_digits text >>= λ x. Ok (pos x.0, x.1))

-- bits in hexadecimal where `0x` was read, else in decimal
abbrev pub bits_after : Result (List ℕ) ℕ → List ℕ → Result (ℕ × List ℕ) ℕ
bits_after (Ok rest) text = number_at 16 most_hex_digits rest
bits_after (Err left) text = number_at 10 most_digits text

-- the bits with which the text begins
abbrev pub bits_at : List ℕ → Result (ℕ × List ℕ) ℕ
bits_at text = bits_after (fixed_at (codes "0x") text) text

-- what stands before the integer with this place
abbrev pub separator_before : ℕ → List ℕ → List ℕ
separator_before zero first = first
separator_before (suc place) first = codes ","

-- n integers, each after a separator, which is `,` from the second on, and then this end
abbrev pub integers_at : List ℕ → ℕ → List ℕ → List ℕ → Result (List ℤ × List ℕ) ℕ
integers_at separator zero end text = fixed_at end text >>= λ rest. Ok ([], rest)
integers_at separator (suc n) end text =
    fixed_at separator text >>= λ begun.
    integer_at begun >>= λ first.
    integers_at (codes ",") n end first.1 >>= λ others.
    Ok (first.0 ∷ others.0, others.1)

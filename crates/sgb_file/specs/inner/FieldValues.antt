-- The fields of a record: what each one's text says [GB_SAVE, fill_field].
use Rattle.std.specs.Prelude.{ℕ, ◌^◌, ℤ, pos, neg_ℤ, Bool, ◌&&◌, List, [], ◌∷◌, length, codes, Option, Some, None, option_map, ◌==◌, nat_lt, nat_le, if◌then◌else◌}
use Rattle.std.specs.List.{list_all}
use Rattle.std.specs.Str.{bytes_eq}
use Rattle.std.specs.Str.Parse.{digits_value}
use Rattle.sgb_text.proofs.Findings.{given}
use Rattle.sgb_vec.specs.Names.{is_text_byte}
use Rattle.sgb_graph.specs.declared.fields.Ref.{Ref}
use Rattle.sgb_graph.specs.declared.fields.Ref.TheVariants.{Null, One, At}
use Rattle.sgb_file.specs.Fields.{most_number_digits, unbroken}

-- an integer field has at most this many digits
abbrev pub most_integer_digits : ℕ
most_integer_digits = 20

-- a decimal digit
abbrev pub is_decimal_digit : ℕ → Bool
is_decimal_digit b = nat_le 48 b && nat_le b 57

-- the number that a text of 1 to `most` decimal digits writes; leading zeros are allowed
abbrev pub number_of : ℕ → List ℕ → Option ℕ
number_of most text =
    if nat_lt 0 (length text) && nat_le (length text) most && list_all is_decimal_digit text
    then Some (digits_value 10 text) else None

-- the same, where the number is below a limit
abbrev pub number_below : ℕ → List ℕ → Option ℕ
number_below limit text = given (number_of most_number_digits text) (λ k. if nat_lt k limit then Some k else None)

-- the integer of 64 bits that a text writes: an optional `-` (45), and digits
abbrev pub integer_of : List ℕ → Option ℤ
integer_of [] = None
integer_of (b ∷ text) =
    if b == 45
    then given (number_of most_integer_digits text) (λ n. if nat_le n (2 ^ 63) then Some (neg_ℤ (pos n)) else None)
    else given (number_of most_integer_digits (b ∷ text)) (λ n. if nat_lt n (2 ^ 63) then Some (pos n) else None)

-- one of n vertices: `V` (86) and its number; or `0`, or `1`
abbrev pub ref_of : ℕ → List ℕ → Option Ref
ref_of n [] = None
ref_of n (b ∷ text) =
    if b == 86 then option_map At (number_below n text)
    else (if bytes_eq (b ∷ text) (codes "0") then Some Null
    else (if bytes_eq (b ∷ text) (codes "1") then Some One else None))

-- one of m arc records: `A` (65) and its number; or `0`
abbrev pub record_number_of : ℕ → List ℕ → Option (Option ℕ)
record_number_of m [] = None
record_number_of m (b ∷ text) =
    if b == 65 then option_map Some (number_below m text)
    else (if bytes_eq (b ∷ text) (codes "0") then Some None else None)

-- the string of at most so many bytes that the bytes between quotes say
abbrev pub string_of : ℕ → List ℕ → Option (List ℕ)
string_of most bytes =
    if nat_le (length (unbroken bytes)) most && list_all is_text_byte (unbroken bytes)
    then Some (unbroken bytes) else None

-- Fields that the bytes before the first comma of a line say, found digit by digit, with the value of a checksum after them.
use Rattle.std.specs.Prelude.{◌≡◌, ℕ, ℤ, neg_ℤ, pos, nat_le, ◌+◌, ◌*◌, ◌%◌, ◌^◌, ◌<◌, ◌≤◌, true, false, List, [], ◌∷◌, ◌++◌, length, take, drop, Option, Some, None, ◌==◌, refl, slice_index_or as get_or, suc, zero}
use Rattle.sgb_vec.proofs.Common.{rules, sym, ◌∙◌, arith, append_assoc, length-append, not, length-take, take_all, take-append-drop, drop-append-le, get_or-take, fold-append, prefix_len-le-length, AllPass-from_list_all, prefix_len_is, take_while-cons, nat_tests, before_first, list_all, take_while, digits_value, and_parts}
use Rattle.sgb_graph.specs.declared.fields.Ref.{Ref}
use Rattle.sgb_graph.specs.declared.fields.Ref.TheVariants.{At}
use Rattle.sgb_file.specs.Checksum.{checksum_prime, has_star}
use Rattle.sgb_file.specs.Fields.{most_number_digits}
use Rattle.sgb_file.specs.inner.FieldValues.{integer_of, number_below, number_of, record_number_of, ref_of, is_decimal_digit}
use Rattle.sgb_file.specs.inner.Found.{is_at_end}
use Rattle.sgb_file.specs.inner.Layouts.{checksum_from, counted_bytes, value_after, value_from}
use Rattle.sgb_file.specs.inner.LineRecords.{IsCountedField}
use Rattle.sgb_file.specs.inner.ReadFields.{plain_at}
use Rattle.sgb_file.specs.inner.LinesLeft.{LinesLeft, text_left, skipped, has_no_newline}
use Rattle.sgb_file.proofs.ChecksumLemmas.{byte_valued, digit_place, few_counted}
use Rattle.sgb_file.proofs.LaidLines.{checksum-counted, checksum_from-append}
use Rattle.sgb_file.proofs.NumberReading.{number_says, number_tested}
use Rattle.sgb_file.proofs.LeftTexts.{under_way, plain_of_line, prefix_passes}

-- the bytes before the first comma
abbrev pub comma_free : List ℕ → List ℕ
comma_free text = before_first (λ b. b == 44) text

-- the digits among the first bytes
abbrev pub front : ℕ → List ℕ → List ℕ
front most text = take_while is_decimal_digit (take most text)

-- a field that the bytes before the first comma of a line say, and what is left of the line
pub field_of_line : (X : Type 0) (says : List ℕ → Option X) (line after text : List ℕ) (x : X) → has_no_newline line ≡ true
    → says (comma_free line) ≡ Some x → drop (length (comma_free line)) line ≡ after
    → plain_at says (line ++ 10 ∷ text) ≡ Some (record { value = x; rest = after ++ 10 ∷ text })
field_of_line X says line after text x h said left = grind (arith, nat_tests, drop-append-le, plain_of_line, length-take)

-- the same of the line under way
pub field_found : (X : Type 0) (says : List ℕ → Option X) (s : LinesLeft) (line : List ℕ) (x : X) (len : ℕ) → Some line ≡ s.line → has_no_newline line ≡ true
    → says (comma_free line) ≡ Some x → len ≡ length (comma_free line) → plain_at says (text_left s) ≡ Some (record { value = x; rest = text_left (skipped len s) })
field_found X says s line x len e h said k = search (rules, field_of_line, under_way)

-- or do not say
pub field_missing : (X : Type 0) (says : List ℕ → Option X) (s : LinesLeft) (line : List ℕ) → Some line ≡ s.line → has_no_newline line ≡ true
    → says (comma_free line) ≡ None → plain_at says (text_left s) ≡ None
field_missing X says s line e h said = search (rules, plain_of_line, under_way)

-- a byte before the first comma
pub one_more : (b : ℕ) (text : List ℕ) → (b == 44) ≡ false → comma_free (b ∷ text) ≡ b ∷ comma_free text
one_more b text e = rw (take_while-cons (λ c. not (c == 44)) b text, e) refl

-- a byte is no digit where what it counts is more than 9
pub no_digit_counts : (b d : ℕ) → nat_le d 9 ≡ is_decimal_digit b → 9 < d → is_decimal_digit b ≡ false
no_digit_counts b d e h = grind (arith, nat_tests)

-- the digits that a text begins with, up to the first byte that is none
pub digits_until : (text : List ℕ) (i : ℕ) → list_all is_decimal_digit (take i text) ≡ true → is_decimal_digit (get_or text i 0) ≡ false → i < length text
    → take_while is_decimal_digit text ≡ take i text
digits_until text i h stop within = grind (arith, prefix_len_is, get_or-take, AllPass-from_list_all, length-take)

pub digits_all : (text : List ℕ) → list_all is_decimal_digit text ≡ true → take_while is_decimal_digit text ≡ text
digits_all [] h = refl
digits_all (b ∷ text) h = let digits = take_while-cons is_decimal_digit b text in grind (arith, and_parts, digits, digits_all text)

-- the field ends with the digits: they are the bytes before the first comma
pub ends_with_digits : (most : ℕ) (text : List ℕ) → is_at_end (drop (length (front most text)) text) ≡ true → comma_free text ≡ front most text
ends_with_digits zero text e = grind (arith)
ends_with_digits (suc most) [] e = refl
ends_with_digits (suc most) (b ∷ text) e =
    let digits = take_while-cons is_decimal_digit b (take most text) in
    let before = take_while-cons (λ c. not (c == 44)) b text in
    grind (arith, nat_tests, digits, before, ends_with_digits most text)

-- the bytes before the first comma end a field
at_comma : (text : List ℕ) → is_at_end (drop (length (comma_free text)) text) ≡ true
at_comma [] = refl
at_comma (b ∷ text) = let before = take_while-cons (λ c. not (c == 44)) b text in grind (arith, before, at_comma text)

-- digits before a comma, not too many, are those that the text begins with
digits_are_front : (most : ℕ) (text : List ℕ) → length (comma_free text) ≤ most → list_all is_decimal_digit (comma_free text) ≡ true → front most text ≡ comma_free text
digits_are_front zero [] n e = refl
digits_are_front zero (b ∷ text) n e = let before = take_while-cons (λ c. not (c == 44)) b text in grind (arith, before)
digits_are_front (suc most) [] n e = refl
digits_are_front (suc most) (b ∷ text) n e =
    let digits = take_while-cons is_decimal_digit b (take most text) in
    let before = take_while-cons (λ c. not (c == 44)) b text in
    grind (arith, and_parts, nat_tests, digits, before, digits_are_front most text)

-- the number of at most so many digits that they write, where the field ends with them
pub number_ends : (most : ℕ) (text : List ℕ) → 0 < length (front most text) → is_at_end (drop (length (front most text)) text) ≡ true
    → number_of most (comma_free text) ≡ Some (digits_value 10 (front most text))
number_ends most text some e = rw (ends_with_digits most text e) (search (rules, number_tested, length-take, prefix_passes))

pub number_goes_on : (most : ℕ) (text : List ℕ) → is_at_end (drop (length (front most text)) text) ≡ false → number_of most (comma_free text) ≡ None
number_goes_on most text e = grind (arith, number_says, digits_are_front, at_comma)

pub no_number : (most : ℕ) (text : List ℕ) → length (front most text) ≡ 0 → number_of most (comma_free text) ≡ None
no_number most text none = grind (arith, front, comma_free, ends_with_digits, nat_tests, number_goes_on)

-- a digit more
pub digit_valued : (value after next : ℕ) (text : List ℕ) (i digit : ℕ) → i < length text → digit < 10 → digit + 48 ≡ get_or text i 0
    → after ≡ value_from value (take i text) → next ≡ (2 * after + digit) % 2 ^ 64 → next ≡ value_from value (take (i + 1) text)
digit_valued value after next text i digit within few is e f =
    let byte : 48 + digit ≡ get_or text i 0 = omega (arith, is) in
    grind (arith, byte_valued, digit_place, byte)

-- a field that begins with a letter
letter_counted : (X : Type 0) (says : List ℕ → Option X) (x : X) (b value len after : ℕ) (line rest : List ℕ) → line ≡ b ∷ rest
    → (b == 44) ≡ false → says (comma_free line) ≡ Some x → len ≡ length (comma_free rest)
    → after ≡ value_from (value_after value b) (comma_free rest) → IsCountedField says line value x (len + 1) after
unfolding value_from
letter_counted X says x b value len after line rest e plain said many counted = grind (arith, comma_free, one_more)

-- a vertex by its number
pub ref_counted : (n v value begun len after : ℕ) (line digits : List ℕ) → line ≡ 86 ∷ digits → begun ≡ value_after value 86
    → IsCountedField (number_below n) digits begun v len after → IsCountedField (ref_of n) line value (At v) (len + 1) after
ref_counted n v value begun len after line digits e b f =
    letter_counted Ref (ref_of n) (At v) 86 value len after line digits e refl (rw (e, one_more 86 digits refl, f.said) refl) f.many (rw (sym b) f.counted)

-- an arc record by its number
pub record_number_counted : (m k value begun len after : ℕ) (line digits : List ℕ) → line ≡ 65 ∷ digits → begun ≡ value_after value 65
    → IsCountedField (number_below m) digits begun k len after
    → IsCountedField (record_number_of m) line value (Some k) (len + 1) after
record_number_counted m k value begun len after line digits e b f =
    letter_counted (Option ℕ) (record_number_of m) (Some k) 65 value len after line digits e refl (rw (e, one_more 65 digits refl, f.said) refl) f.many (rw (sym b) f.counted)

-- an integer with a `-`
pub minus_counted : (n value begun len after : ℕ) (x : ℤ) (text digits : List ℕ) → text ≡ 45 ∷ digits → begun ≡ value_after value 45
    → n < 10 ^ 18 → x ≡ neg_ℤ (pos n) → Some n ≡ number_of most_number_digits (comma_free digits) → len ≡ length (comma_free digits)
    → after ≡ value_from begun (comma_free digits) → IsCountedField integer_of text value x (len + 1) after
minus_counted n value begun len after x text digits e b few is said many counted =
    let whole : integer_of (comma_free text) ≡ Some x = rw (e, one_more 45 digits refl) (grind (arith, nat_tests)) in
    letter_counted ℤ integer_of x 45 value len after text digits e refl whole many (rw (sym b) counted)

-- none
pub no_record_counted : (m value after : ℕ) (line rest : List ℕ) → line ≡ 48 ∷ rest → is_at_end rest ≡ true
    → after ≡ value_after value 48 → IsCountedField (record_number_of m) line value None 1 after
unfolding value_from
no_record_counted m value after line rest e end f = search (rules, comma_free, ends_with_digits, one_more)

-- a text is what stands before its first comma, and what comes after that
comma_free_first : (text : List ℕ) (i : ℕ) → i ≡ length (comma_free text) → comma_free text ++ drop i text ≡ text
comma_free_first text i e = search (rules, prefix_len-le-length, length-take, comma_free, take-append-drop)

-- the value after a field and its comma goes on with what follows
pub field_valued : (X : Type 0) (says : List ℕ → Option X) (x : X) (text rest more : List ℕ) (value i after next : ℕ)
    → IsCountedField says text value x i after → drop i text ≡ 44 ∷ rest → next ≡ value_after after 44
    → value_from value (text ++ more) ≡ value_from next (rest ++ more)
unfolding value_from
field_valued X says x text rest more value i after next f e n = rw (sym (comma_free_first text i f.many), e, append_assoc) (grind (arith, comma_free, fold-append))

-- the value after the last field of a line, and its newline
pub last_valued : (X : Type 0) (says : List ℕ → Option X) (x : X) (text : List ℕ) (value i after : ℕ)
    → IsCountedField says text value x i after → length text ≤ i → value_from value (text ++ 10 ∷ []) ≡ value_after after 10
unfolding value_from
last_valued X says x text value i after f end = grind (arith, comma_free, take_all, length-take, fold-append)

pub no_star : (n : ℕ) (line : List ℕ) (tip : Ref) → ref_of n (comma_free line) ≡ Some tip → has_star line ≡ false
no_star n line tip said = grind (arith, nat_tests, comma_free, one_more)

-- the checksum after the newline of a short line, by the value after the line
pub line_counted : (sum start value result : ℕ) (line : List ℕ) → start ≡ sum → sum < 2 ^ 32 → length line ≤ 30
    → value_from start (line ++ 10 ∷ []) ≡ value → result ≡ value % checksum_prime → result ≡ checksum_from sum (line ++ 10 ∷ [])
line_counted sum start value result line from small few counted e = search (rules, length-append, few_counted)

pub short_counted : (sum start value result : ℕ) (line : List ℕ) → start ≡ sum → sum < 2 ^ 32 → length line ≤ 30 → has_star line ≡ false
    → value_from start (line ++ 10 ∷ []) ≡ value → result ≡ value % checksum_prime → result ≡ checksum_from sum (counted_bytes (line ∷ []))
short_counted sum start value result line from small few plain counted e =
    line_counted sum start value result line from small few counted e ∙ (checksum_from-append sum line (10 ∷ []) ∙ checksum-counted sum line plain)

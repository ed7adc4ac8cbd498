-- Short lines that are put together: bytes after bytes, and the checksum that comes of the value.
use Rattle.std.specs.Prelude.{◌≡◌, ℕ, ◌+◌, ◌*◌, ◌/◌, ◌%◌, ◌^◌, ◌<◌, ◌≤◌, false, List, [], ◌∷◌, ◌++◌, codes, decimal, length, take, slice_index_or as get_or, set, refl, Option, Some, None, IfSome}
use Rattle.sgb_vec.proofs.Common.{rules, arith, ap, sym, ◌∙◌, append_assoc, append-nil, length-append, ◌≡◌, ◌≤◌, ◌<◌, ◌+◌, ◌/◌, ◌%◌, ◌^◌, ◌∷◌, [], ◌++◌, ℕ, decimal, mod-eq_of_lt, nat_tests, length-take, take_more, take_more_set, fold-append, length-decimal-le, decimal_digit, decimal_step, mod_below}
use Rattle.sgb_file.specs.Checksum.{checksum_prime, has_star}
use Rattle.sgb_file.specs.Saving.{laid_out, pieces_of, quoted, record_lines, record_number_text}
use Rattle.sgb_file.specs.inner.Layouts.{HasLaid, checksum_from, place_of, value_from}
use Rattle.sgb_file.specs.inner.ShortLines.{AreShort, AreShortFields, ShortText, field_texts_of, line_of, name_piece, put_after, short_stage, short_texts}
use Rattle.sgb_file.proofs.ChecksumLemmas.{few_counted}
use Rattle.sgb_file.proofs.LaidLines.{checksum-counted, checksum_from-append}

-- the text of two digits
pub two_digits : (n : ℕ) → 10 ≤ n → n < 100 → (48 + n / 10) ∷ (48 + n % 10) ∷ [] ≡ decimal n
two_digits n more few = search (rules, decimal_step, decimal_digit)

-- two digits after others
pub pair_after : (n : ℕ) → 100 ≤ n → n < 2 ^ 32 → decimal (n / 100) ++ ((48 + n % 100 / 10) ∷ (48 + n % 100 % 10) ∷ []) ≡ decimal n
pair_after n more few = search (rules, decimal_step, append_assoc)

-- bytes with a value
abbrev pub kept_text : List ℕ → ℕ → ShortText
kept_text text value = record { text = text; value = value }

-- a byte was put after the others
pub byte_put : (s : ShortText) (text : List ℕ) (byte place new : ℕ) → text ≡ s.text ++ byte ∷ [] → place ≡ place_of byte
    → new ≡ (2 * s.value + place) % 2 ^ 64 → kept_text text new ≡ put_after s (byte ∷ [])
unfolding put_after value_from
byte_put s text byte place new e p v = grind (arith, e, p, v)

-- bytes after bytes
pub put-append : (s : ShortText) (xs ys : List ℕ) → put_after (put_after s xs) ys ≡ put_after s (xs ++ ys)
unfolding put_after value_from
put-append s xs ys = search (rules, append_assoc, fold-append)

-- no bytes, and bytes one by one
pub put-none : (s : ShortText) (bytes : List ℕ) → s ≡ put_after s (take 0 bytes)
unfolding put_after value_from
put-none s bytes = ap (λ t. kept_text t s.value) (sym (append-nil s.text))

pub put-next : (s before after : ShortText) (bytes : List ℕ) (i byte : ℕ) → i < length bytes → byte ≡ get_or bytes i 0
    → before ≡ put_after s (take i bytes)
    → after ≡ put_after before (byte ∷ []) → after ≡ put_after s (take (i + 1) bytes)
put-next s before after bytes i byte within is e f = search (rules, put-append, take_more)

-- two digits were put after the others
pub pair_put_after : (s before after : ShortText) (n : ℕ) → 100 ≤ n → n < 2 ^ 32 → before ≡ put_after s (decimal (n / 100))
    → after ≡ put_after before ((48 + n % 100 / 10) ∷ (48 + n % 100 % 10) ∷ []) → after ≡ put_after s (decimal n)
pair_put_after s before after n more few e f = grind (arith, put-append, pair_after)

-- bytes were put after others
pub put-then : (s before after : ShortText) (xs ys : List ℕ) → before ≡ put_after s xs → after ≡ put_after before ys
    → after ≡ put_after s (xs ++ ys)
put-then s before after xs ys e f = grind (arith, put-append)

-- a remainder is small
pub remainder_small : (s : ShortText) (n : ℕ) → s.value ≡ n % checksum_prime → s.value < 2 ^ 32
remainder_small s n e = omega (arith, e, mod_below n checksum_prime (omega arith))

-- a line whose last bytes, few of them, were put after others, and its newline
ended : (s mid new : ShortText) (line : List ℕ) → s.value < 2 ^ 32 → length line ≤ 29 → mid ≡ put_after s line
    → new.text ≡ (put_after mid (10 ∷ [])).text → new.value ≡ (put_after mid (10 ∷ [])).value % checksum_prime
    → (new.text ≡ s.text ++ (line ++ 10 ∷ [])) × (new.value ≡ checksum_from s.value (line ++ 10 ∷ []))
unfolding put_after
ended s mid new line small short e text value = grind (arith, put-append, length-append, few_counted)

-- a short line and its newline were put after others
pub short-laid : (old mid new : ShortText) (line : List ℕ) → old.value < 2 ^ 32 → length line ≤ 29 → has_star line ≡ false
    → mid ≡ put_after old line
    → new.text ≡ (put_after mid (10 ∷ [])).text → new.value ≡ (put_after mid (10 ∷ [])).value % checksum_prime
    → HasLaid (line ∷ []) (short_stage old) (short_stage new)
short-laid old mid new line small short plain e text value = grind (arith, append-nil, checksum_from-append, checksum-counted, ended old mid new line)

-- the same of a line in two parts, with the remainder taken between them
parts-laid : (old first between mid new : ShortText) (front back : List ℕ) → old.value < 2 ^ 32 → 0 < length front
    → length front ≤ 31 → length back ≤ 29
    → has_star (front ++ back) ≡ false → first ≡ put_after old front → between.text ≡ first.text
    → between.value ≡ first.value % checksum_prime
    → mid ≡ put_after between back → new.text ≡ (put_after mid (10 ∷ [])).text
    → new.value ≡ (put_after mid (10 ∷ [])).value % checksum_prime
    → HasLaid ((front ++ back) ∷ []) (short_stage old) (short_stage new)
unfolding put_after
parts-laid old first between mid new front back small some few short plain e t v f text value =
    let rest = ended between mid new back (remainder_small between first.value v) short f text value in
    let sum = few_counted old.value between.value front small some few (v ∙ ap (λ (s : ShortText). s.value % checksum_prime) e) in
    let whole = append_assoc front back (10 ∷ []) in
    grind (arith, append_assoc, append-nil, checksum_from-append, checksum-counted old.value (front ++ back) plain, whole, rest, sum)

-- the texts of a short line's fields have few bytes
four_digits : (n : ℕ) → n < 10_000 → length (decimal n) ≤ 4
four_digits n few = grind (arith, length-decimal-le 4 n)

next_short : (next : Option ℕ) → IfSome next (λ k. k < 100_000_000) → length (record_number_text next) ≤ 9
next_short None h = omega arith
next_short (Some k) h = grind (arith, length-decimal-le)

-- a record whose texts fit on one line
texts_fit : (line : List ℕ) (texts : List (List ℕ)) → length line + length (line_of texts) ≤ 79
    → laid_out line (pieces_of texts) ≡ (line ++ line_of texts) ∷ []
unfolding laid_out pieces_of
texts_fit line [] few = ap (λ t. t ∷ []) (sym (append-nil line))
texts_fit line (text ∷ texts) few = grind (arith, length-append, nat_tests, append_assoc, texts_fit (line ++ (text ++ codes ",")) texts)

-- the texts of an arc record are short
pub short_length : (tip : ℕ) (next : Option ℕ) (len : ℕ) → AreShort tip next len → length (line_of (short_texts tip next len)) ≤ 29
short_length tip next len short = grind (arith, length-decimal-le 8 tip, four_digits, next_short, length-append)

pub short_record : (tip : ℕ) (next : Option ℕ) (len : ℕ) → AreShort tip next len
    → record_lines (short_texts tip next len) ≡ line_of (short_texts tip next len) ∷ []
short_record tip next len short = texts_fit [] (short_texts tip next len) (omega (arith, short_length tip next len short))

-- and those of a vertex
pub next_length : (first : Option ℕ) → IfSome first (λ k. k < 100_000_000) → length (record_number_text first) ≤ 29
next_length first short = omega (arith, next_short first short)

pub fields_length : (first : Option ℕ) (x y z : ℕ) → AreShortFields first x y z → length (line_of (field_texts_of first x y z)) ≤ 29
fields_length first x y z short = grind (arith, next_short, four_digits, length-append)

vertex_record : (name field : List ℕ) (fields : List (List ℕ)) → length name ≤ 28 → length (line_of (field ∷ fields)) ≤ 29
    → record_lines (quoted name ∷ field ∷ fields) ≡ (name_piece name ++ line_of (field ∷ fields)) ∷ []
vertex_record name field fields few short = grind (arith, length-append, texts_fit [] (quoted name ∷ field ∷ fields), append_assoc)

pub vertex-laid : (old first between mid new : ShortText) (name field : List ℕ) (fields : List (List ℕ)) → old.value < 2 ^ 32
    → length name ≤ 28 → length (line_of (field ∷ fields)) ≤ 29 → first ≡ put_after old (name_piece name)
    → between.text ≡ first.text → between.value ≡ first.value % checksum_prime → mid ≡ put_after between (line_of (field ∷ fields))
    → new.text ≡ (put_after mid (10 ∷ [])).text → new.value ≡ (put_after mid (10 ∷ [])).value % checksum_prime
    → HasLaid (record_lines (quoted name ∷ field ∷ fields)) (short_stage old) (short_stage new)
vertex-laid old first between mid new name field fields small few short e t v f text value =
    rw (vertex_record name field fields few short)
    (parts-laid old first between mid new (name_piece name) (line_of (field ∷ fields)) small (grind (arith, length-append)) (grind (arith, length-append)) short refl e t v f text value)

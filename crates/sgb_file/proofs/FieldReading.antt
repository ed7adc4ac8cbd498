-- The texts of fields: what they say as they are written, also with breaks, and where a plain text or a string ends.
use Rattle.sgb_vec.proofs.Common.{rules, ap, ◌∙◌, append_assoc, append-nil, arith, length-append, take-append-drop, ◌≡◌, ◌≢◌, ℕ, zero, suc, ℤ, pos, negsuc, ◌+◌, ◌*◌, ◌^◌, ◌<◌, ◌≤◌, Bool, true, not, ◌||◌, List, [], ◌∷◌, ◌++◌, length, take, drop, codes, decimal, Option, Some, None, option_map, All, FitsSigned, nat_le, nat_lt, ◌==◌, refl, signed_decimal, w64, list_all, position_or_len, AllDigits, take-append_seam, drop-append-add, and_parts, and_from, not-true, nat_tests, decimal_is_IsNumeral, length-decimal-le, AllPass-from_list_all, list_all-from_AllPass}
use Rattle.std.proofs.lemmas.Str.Parse.{digit_at}
use Rattle.sgb_text.proofs.Findings.{after_prefix}
use Rattle.sgb_vec.specs.Names.{IsTextByte, is_text_byte}
use Rattle.sgb_graph.specs.declared.fields.Ref.{Ref}
use Rattle.sgb_graph.specs.declared.fields.Ref.TheVariants.{Null, One, At}
use Rattle.sgb_graph.proofs.Lists.{list_all-weaker}
use Rattle.sgb_graph.specs.Sound.{ref_fits, chain_fits}
use Rattle.sgb_file.specs.Fields.{most_number_digits, unbroken, IsStringText}
use Rattle.sgb_file.specs.inner.FieldValues.{is_decimal_digit, number_of, number_below, most_integer_digits, integer_of, ref_of, record_number_of}
use Rattle.sgb_file.specs.inner.ReadFields.{string_at, plain_text}
use Rattle.sgb_file.specs.Saving.{quoted, ref_text, record_number_text}
use Rattle.sgb_file.proofs.LineLemmas.{is_line, is_one_line, is_within_line, ends_well, ends_well-last, list_all-drop, list_all-take, list_all-join}
use Rattle.sgb_file.proofs.LeftTexts.{first_beyond, any_beyond}
use Rattle.sgb_file.proofs.LaidOutText.{with_breaks, breaks_within}
use Rattle.sgb_file.proofs.NumberReading.{number_tested, test_below}

-- a text that begins with a comma or a newline
abbrev pub Ends : List ℕ → Type 0
Ends [] = ⊥
Ends (b ∷ text) = (b == 44 || b == 10) ≡ true

-- so many breaks at most has a field's text
abbrev pub AreFew : ℕ → List ℕ → Type 0
AreFew breaks text = 0 < breaks → 78 * breaks + 1 ≤ length text

-- a text as it stands with so many breaks
abbrev pub IsBroken : List ℕ → List ℕ → Type 0
IsBroken text broken = (breaks : ℕ) × AreFew breaks text × (broken ≡ with_breaks breaks 78 text)

-- a byte of a plain text: no comma, no newline
abbrev pub is_plain_byte : ℕ → Bool
is_plain_byte b = not (b == 44 || b == 10)

-- the plain text that a text begins with
pub plain_text_is : (text more : List ℕ) → list_all is_plain_byte text ≡ true → Ends more → plain_text (text ++ more) ≡ text
plain_text_is text [] h e = absurd e
plain_text_is text (b ∷ more) h e =
    ap (λ k. take k (text ++ b ∷ more)) (first_beyond (λ c. c == 44 || c == 10) text (b ∷ more) h ∙ rw e (omega arith)) ∙ take-append_seam text (b ∷ more)

-- a short text that says a value: it stands with no breaks
pub record IsSaid {X : Type 0} (says : List ℕ → Option X) (text : List ℕ) (value : X) : Type 0 where
  pub short : length text ≤ 78
  pub said : says text ≡ Some value
  pub line : is_line text ≡ true

pub said_broken : {X : Type 0} (says : List ℕ → Option X) (text : List ℕ) (value : X) → IsSaid says text value → (broken : List ℕ) → IsBroken text broken → says broken ≡ Some value
unfolding with_breaks
said_broken says text value h broken k = grind (arith)

pub plain_begins : (text more : List ℕ) → 0 < length text → list_all is_plain_byte text ≡ true → after_prefix (codes "\n") (text ++ more) ≡ None
plain_begins [] more some h = absurd (omega (arith, some))
plain_begins (b ∷ text) more some h = grind (arith, is_plain_byte, and_parts, nat_tests)

pub digits_are_plain : (text : List ℕ) → list_all is_decimal_digit text ≡ true → list_all is_plain_byte text ≡ true
digits_are_plain text h = grind (arith, nat_tests, list_all-weaker, is_plain_byte)

pub digits_tested : (text : List ℕ) → AllDigits 10 text → list_all is_decimal_digit text ≡ true
digits_tested [] h = refl
digits_tested (b ∷ text) h = grind (arith, nat_tests, and_from, digit_at, digits_tested text)

-- the decimal of a number of 64 bits
pub decimal_digits : (n : ℕ) → n < 2 ^ 64 → list_all is_decimal_digit (decimal n) ≡ true
decimal_digits n h = digits_tested (decimal n) (decimal_is_IsNumeral n h).0.1

-- a byte above the space
abbrev is_visible : ℕ → Bool
is_visible b = nat_lt 32 b

visible_ends_well : (text : List ℕ) → list_all is_visible text ≡ true → ends_well text ≡ true
unfolding ends_well
visible_ends_well [] h = refl
visible_ends_well (b ∷ text) h = grind (arith, nat_tests, and_parts, visible_ends_well text)

-- a text of such bytes is a line as it is written
pub visible_is_line : (text : List ℕ) → list_all is_visible text ≡ true → is_line text ≡ true
visible_is_line text h = grind (arith, nat_tests, and_from, is_one_line, ends_well, list_all-weaker, is_visible, is_within_line, visible_ends_well)

pub decimal_visible : (n : ℕ) → n < 2 ^ 64 → list_all is_visible (decimal n) ≡ true
decimal_visible n h = list_all-weaker is_decimal_digit is_visible (decimal n) (λ b e. grind (arith, nat_tests)) (decimal_digits n h)

pub decimal_is_line : (n : ℕ) → n < 2 ^ 64 → is_line (decimal n) ≡ true
decimal_is_line n h = visible_is_line (decimal n) (decimal_visible n h)

decimal_is_short : (n : ℕ) → n < 2 ^ 64 → length (decimal n) ≤ 20
decimal_is_short n h = length-decimal-le 20 n (omega arith) (omega arith) h

-- a letter before a decimal
lettered_is_said : {X : Type 0} (says : List ℕ → Option X) (x : X) (b n : ℕ) → is_visible b ≡ true → n < 2 ^ 64 → says (b ∷ decimal n) ≡ Some x → IsSaid says (b ∷ decimal n) x
lettered_is_said says x b n e h said =
    record { short = omega (arith, decimal_is_short n h); said = said; line = visible_is_line (b ∷ decimal n) (grind (arith, decimal_visible)) }

-- a number is read of its decimal
pub number_read : (most n : ℕ) → 0 < most → n < 10 ^ most → n < 2 ^ 64 → number_of most (decimal n) ≡ Some n
number_read most n some below h = search (rules, decimal_is_IsNumeral, number_tested, length-decimal-le, decimal_digits)

pub number_is_said : (n : ℕ) → n < 10 ^ 18 → IsSaid (number_of most_number_digits) (decimal n) n
number_is_said n h = grind (arith, decimal_is_short, number_read, decimal_is_line)

-- an integer is read of its text
pub integer_by_digits : (text : List ℕ) (n : ℕ) → number_of most_integer_digits text ≡ Some n → list_all is_decimal_digit text ≡ true → n < 2 ^ 63 → integer_of text ≡ Some (pos n)
integer_by_digits text n read digits h = grind (arith, and_parts, nat_tests)

integer_read : (i : ℤ) → FitsSigned w64 i → integer_of (signed_decimal i) ≡ Some i
integer_read (pos n) h =
    integer_by_digits (decimal n) n (number_read most_integer_digits n (omega arith) (omega (arith, h)) (omega (arith, h))) (decimal_digits n (omega (arith, h))) (omega (arith, h))
integer_read (negsuc n) h = grind (arith, nat_tests, number_read)

pub integer_is_said : (i : ℤ) → FitsSigned w64 i → IsSaid integer_of (signed_decimal i) i
integer_is_said (pos n) h = record { short = omega (arith, decimal_is_short n (omega (arith, h))); said = integer_read (pos n) h; line = decimal_is_line n (omega (arith, h)) }
integer_is_said (negsuc n) h = lettered_is_said integer_of (negsuc n) 45 (suc n) refl (omega (arith, h)) (integer_read (negsuc n) h)

-- a number below a limit
below_read : (limit n : ℕ) → limit ≤ 10 ^ 18 → n < limit → number_below limit (decimal n) ≡ Some n
below_read limit n most h = grind (arith, nat_tests, number_read)

-- a vertex is said by its text, and an arc record's number
pub ref_is_said : (n : ℕ) (r : Ref) → n ≤ 10 ^ 18 → ref_fits n r ≡ true → IsSaid (ref_of n) (ref_text r) r
ref_is_said n Null most h = record { short = omega arith; said = refl; line = visible_is_line (codes "0") refl }
ref_is_said n One most h = record { short = omega arith; said = refl; line = visible_is_line (codes "1") refl }
ref_is_said n (At v) most h =
    let below = test_below v n h in lettered_is_said (ref_of n) (At v) 86 v refl (omega (arith, below, most)) (ap (option_map At) (below_read n v most below))

pub record_number_is_said : (m : ℕ) (k : Option ℕ) → m ≤ 10 ^ 18 → chain_fits m k ≡ true → IsSaid (record_number_of m) (record_number_text k) k
record_number_is_said m None most h = record { short = omega arith; said = refl; line = visible_is_line (codes "0") refl }
record_number_is_said m (Some k) most h =
    let below = test_below k m h in lettered_is_said (record_number_of m) (Some k) 65 k refl (omega (arith, below, most)) (ap (option_map Some) (below_read m k most below))

-- no byte of a text is a quote, or a backslash
abbrev pub no_quotes : List ℕ → Bool
no_quotes text = list_all (λ b. not (b == 34)) text

abbrev no_slashes : List ℕ → Bool
no_slashes text = list_all (λ b. not (b == 92)) text

pub have_no_quote : (text : List ℕ) → no_quotes text ≡ true → All (λ b. b ≢ 34) text
have_no_quote text h k d below = grind (arith, AllPass-from_list_all, nat_tests)

-- breaks bring no quotes
breaks_no_quotes : (n first : ℕ) (text : List ℕ) → no_quotes text ≡ true → no_quotes (with_breaks n first text) ≡ true
unfolding with_breaks
breaks_no_quotes zero first text h = h
breaks_no_quotes (suc n) first text h = simp (list_all-join, with_breaks, list_all-take, list_all-drop, breaks_no_quotes n 78 (drop first text) (list_all-drop (λ b. not (b == 34)) first text h))

-- a text with no backslash says itself, whatever follows
unbroken_front : (text more : List ℕ) → no_slashes text ≡ true → unbroken (text ++ more) ≡ text ++ unbroken more
unfolding unbroken
unbroken_front [] more h = refl
unbroken_front (b ∷ []) more h = grind (arith)
unbroken_front (b ∷ c ∷ text) more h = grind (arith, and_parts, no_slashes, not-true, unbroken_front (c ∷ text) more)

-- the breaks of a text undone
unbroken_breaks : (n first : ℕ) (text : List ℕ) → no_slashes text ≡ true → unbroken (with_breaks n first text) ≡ text
unfolding with_breaks unbroken
unbroken_breaks zero first text h = rw append-nil at (unbroken_front text [] h)
unbroken_breaks (suc n) first text h = simp (unbroken_front, with_breaks, list_all-take, list_all-drop, take-append-drop, unbroken_breaks n 78 (drop first text) (list_all-drop (λ b. not (b == 92)) first text h))

-- the breaks of a quoted text are between its quotes
quoted_breaks : (n : ℕ) (s : List ℕ) → AreFew n (quoted s) → with_breaks n 78 (quoted s) ≡ quoted (with_breaks n 77 s)
unfolding with_breaks
quoted_breaks zero s few = refl
quoted_breaks (suc n) s few = ap (λ x. 34 ∷ x) (breaks_within (suc n) 77 s (34 ∷ []) (omega (arith, few (omega arith), length-append s (34 ∷ []))))

-- a quoted text is read as its string
pub string_says : (most : ℕ) (inside s more : List ℕ) → no_quotes inside ≡ true → unbroken inside ≡ s → length s ≤ most → list_all is_text_byte s ≡ true
    → string_at most (quoted inside ++ more) ≡ Some (record { value = s; rest = more })
string_says most inside s more quotes says short bytes =
    let place : position_or_len (λ c. c == 34) (inside ++ 34 ∷ more) ≡ length inside = first_beyond (λ c. c == 34) inside (34 ∷ more) quotes ∙ omega arith in
    let fits : nat_le (length s) most ≡ true = grind (arith, nat_tests) in
    rw (append_assoc inside (34 ∷ []) more, any_beyond (λ c. c == 34) inside (34 ∷ more) quotes, place, take-append_seam inside (34 ∷ more))
    (rw (says, fits, bytes, drop-append-add inside (34 ∷ more) 1) refl)

-- a string is said by its quoted text, with any breaks
pub string_is_said : (most : ℕ) (s : List ℕ) → length s ≤ most → All IsTextByte s → (broken : List ℕ) → IsBroken (quoted s) broken → IsStringText most broken s
string_is_said most s short printable broken b = grind (arith, list_all-from_AllPass, list_all-weaker, nat_tests, quoted_breaks, have_no_quote, breaks_no_quotes, unbroken_breaks)

-- a quoted text is a line as it is written
pub quoted_is_line : (s : List ℕ) → All IsTextByte s → is_line (quoted s) ≡ true
quoted_is_line s h =
    let bytes = list_all-weaker is_text_byte is_within_line s (λ b e. grind (arith, nat_tests)) (list_all-from_AllPass is_text_byte s h) in
    grind (arith, list_all-join, ends_well-last (34 ∷ s) 34 refl, bytes)

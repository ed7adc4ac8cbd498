-- Fields and their texts: a field's reader finds exactly a text that stands for its value.
use Rattle.sgb_vec.proofs.Common.{ap, sym, ◌∙◌, arith, append_assoc, inl, inr, rules, ◌≡◌, ℕ, ℤ, ◌<◌, true, not, ◌&&◌, List, [], ◌∷◌, length, codes, Option, Some, None, nat_lt, ◌==◌, refl, ◌^◌, ◌≤◌, pos, neg_ℤ, nat_le, if◌then◌else◌, list_all, list_any, before_first, after_first, and_parts, nat_tests, Decides-eqb, list_all-from_AllPass, passes_at_first, split_at_first, drop-append_seam}
use Rattle.std.proofs.lemmas.Slice.Eq.{bytes_eq-Decides}
use Rattle.sgb_text.proofs.Findings.{Found, after_prefix, taken_and_left, was_given, was_mapped, was_let_through, was_chosen, was_either, given}
use Rattle.sgb_vec.specs.Limits.{most_bytes}
use Rattle.sgb_graph.specs.Sound.{ref_fits, chain_fits}
use Rattle.sgb_graph.specs.declared.fields.Kind.{Kind}
use Rattle.sgb_graph.specs.declared.fields.Kind.TheVariants.{Z, I, V, S, A}
use Rattle.sgb_graph.specs.declared.fields.Ref.{Ref}
use Rattle.sgb_graph.specs.declared.fields.Util.TheVariants.{Int, Vertex as VertexField, Str, Chain}
use Rattle.sgb_file.specs.Fields.{IsStringText, IsIntegerText, IsRecordNumberText, IsRefText, IsNumberBelow, unbroken}
use Rattle.sgb_file.specs.inner.FieldValues.{number_of, number_below, most_integer_digits, integer_of, ref_of, record_number_of, string_of}
use Rattle.sgb_file.specs.inner.Heads.{Counts}
use Rattle.sgb_file.specs.inner.ReadFields.{string_at, plain_at, field_at}
use Rattle.sgb_file.specs.Files.{IsFieldText}
use Rattle.sgb_file.specs.Saving.{quoted}
use Rattle.sgb_text.proofs.Finders.{Finds, StandsIn, found_with, finds_as, finds_is}
use Rattle.sgb_text.specs.Numbers.{IsNumber}
use Rattle.sgb_vec.specs.Names.{is_text_byte}
use Rattle.sgb_file.proofs.FieldReading.{Ends, is_plain_byte, plain_begins, digits_are_plain, have_no_quote, string_says, digits_tested, integer_by_digits, plain_text_is}
use Rattle.sgb_file.proofs.LeftTexts.{passes_within, prefix_passes}
use Rattle.sgb_file.proofs.NumberReading.{number_says, all_digits, number_tested, test_below}

-- digits
pub digits_found : (most : ℕ) (text : List ℕ) (n : ℕ) → number_of most text ≡ Some n → IsNumber 10 most text n
digits_found most text n e = grind (arith, number_says, all_digits)

pub digits_again : (most : ℕ) (text : List ℕ) (n : ℕ) → IsNumber 10 most text n → number_of most text ≡ Some n
digits_again most text n h = number_tested most text h.numeral.0 h.short (digits_tested text h.numeral.1) ∙ ap Some (sym h.writes)

-- a number below a limit
below_found : (limit : ℕ) (text : List ℕ) (k : ℕ) → number_below limit text ≡ Some k → IsNumberBelow limit text k
below_found limit text k e = grind (arith, was_given, was_let_through, digits_found, test_below)

below_again : (limit : ℕ) (text : List ℕ) (k : ℕ) → IsNumberBelow limit text k → number_below limit text ≡ Some k
below_again limit text k h = grind (arith, nat_tests, given, digits_again)

pub ref_found : (n : ℕ) (text : List ℕ) (r : Ref) → ref_of n text ≡ Some r → IsRefText n text r
ref_found n text r e = grind (arith, nat_tests, below_found, bytes_eq-Decides)

pub ref_again : (n : ℕ) (text : List ℕ) (r : Ref) → IsRefText n text r → ref_of n text ≡ Some r
ref_again n text r h = grind (arith, below_again)

-- an arc record's number
pub record_number_found : (m : ℕ) (text : List ℕ) (first : Option ℕ) → record_number_of m text ≡ Some first → IsRecordNumberText m text first
record_number_found m text first e = grind (arith, nat_tests, below_found, bytes_eq-Decides)

pub record_number_again : (m : ℕ) (text : List ℕ) (first : Option ℕ) → IsRecordNumberText m text first → record_number_of m text ≡ Some first
record_number_again m text first h = grind (arith, below_again)

-- an integer
negative_found : (text : List ℕ) (i : ℤ) → given (number_of most_integer_digits text) (λ n. if nat_le n (2 ^ 63) then Some (neg_ℤ (pos n)) else None) ≡ Some i → IsIntegerText (45 ∷ text) i
negative_found text i e = grind (arith, nat_tests, digits_found)

positive_found : (text : List ℕ) (i : ℤ) → given (number_of most_integer_digits text) (λ n. if nat_lt n (2 ^ 63) then Some (pos n) else None) ≡ Some i → IsIntegerText text i
positive_found text i e = grind (arith, nat_tests, digits_found)

pub integer_found : (text : List ℕ) (i : ℤ) → integer_of text ≡ Some i → IsIntegerText text i
integer_found [] i e = absurd cc
integer_found (b ∷ text) i e = elim (was_either (b == 45) e) [ inl h ↦ rw ((Decides-eqb b 45).0 h.0) (negative_found text i h.1) | inr h ↦ positive_found (b ∷ text) i h.1 ]

pub integer_again : (text : List ℕ) (i : ℤ) → IsIntegerText text i → integer_of text ≡ Some i
integer_again text i h = grind (arith, integer_by_digits, digits_again, digits_tested, nat_tests, given)

-- a string
pub string_of_is : (most : ℕ) (inside s : List ℕ) → string_of most inside ≡ Some s → (unbroken inside ≡ s) × (length s ≤ most) × (list_all is_text_byte s ≡ true)
string_of_is most inside s e = grind (arith, nat_tests)

-- a text that begins with no newline
abbrev pub GoesOn : List ℕ → Type 0
GoesOn text = after_prefix (codes "\n") text ≡ None

-- a text that says a number, a vertex or an arc record has no comma and no newline in it
pub record IsPlainText (text : List ℕ) : Type 0 where
  pub some : 0 < length text
  pub bytes : list_all is_plain_byte text ≡ true

-- a text that says a value by this function
abbrev Says : {X : Type 0} → (List ℕ → Option X) → List ℕ → X → Type 0
Says says text x = says text ≡ Some x

-- a plain text is read, where all that say a value are plain
pub finds_plain : {X : Type 0} (says : List ℕ → Option X) → ((text : List ℕ) (x : X) → says text ≡ Some x → IsPlainText text) → Finds found_with GoesOn Ends (Says says) (plain_at says)
finds_plain says plain = search (rules, nat_tests, was_mapped, taken_and_left, plain_begins, plain_text_is, drop-append_seam)

string_found : (most : ℕ) (text : List ℕ) (result : Found (List ℕ)) → string_at most text ≡ Some result → StandsIn found_with (IsStringText most) text result
string_found most [] result e = absurd cc
string_found most (b ∷ text) result e =
    let chosen = was_chosen (b == 34 && list_any (λ c. c == 34) text) e in
    let tests = and_parts (b == 34) (list_any (λ c. c == 34) text) chosen.0 in
    let inside = before_first (λ c. c == 34) text in
    let m = was_mapped (string_of most inside) chosen.1 in
    let is = string_of_is most inside m.first m.here in
    let within = passes_within (λ c. c == 34) text tests.1 in
    let parts = split_at_first (λ c. c == 34) text 0 within in
    let quote = passes_at_first (λ c. c == 34) text 0 within in
    record {
      value = m.first;
      word = quoted inside;
      rest = after_first (λ c. c == 34) text;
      says = (inside, refl, have_no_quote inside (prefix_passes (λ c. not (c == 34)) text), is.0, is.1, is.2);
      parts = grind (arith, nat_tests, append_assoc, parts, quote, tests);
      made = m.same;
    }

-- a string is read
pub finds_string : (most : ℕ) → Finds found_with GoesOn Ends (IsStringText most) (string_at most)
finds_string most = grind (arith, nat_tests, string_found, list_all-from_AllPass, string_says)

-- the text of a number, of a vertex or of an arc record is plain, and its value fits
pub number_is_plain : (most : ℕ) (text : List ℕ) (n : ℕ) → IsNumber 10 most text n → IsPlainText text
number_is_plain most text n h = record { some = h.numeral.0; bytes = digits_are_plain text (digits_tested text h.numeral.1) }

pub ref_says : (n : ℕ) (text : List ℕ) (r : Ref) → IsRefText n text r → IsPlainText text × (ref_fits n r ≡ true)
ref_says n text r h = grind (arith, nat_tests, IsPlainText, digits_are_plain, digits_tested)

pub record_number_says : (m : ℕ) (text : List ℕ) (first : Option ℕ) → IsRecordNumberText m text first → IsPlainText text × (chain_fits m first ≡ true)
record_number_says m text first h = grind (arith, nat_tests, IsPlainText, digits_are_plain, digits_tested)

-- the text of an integer is plain
integer_is_plain : (text : List ℕ) (i : ℤ) → IsIntegerText text i → IsPlainText text
integer_is_plain text i h = grind (arith, IsPlainText, digits_are_plain, digits_tested)

-- a word of a language that a function says is read
pub finds_said : {X : Type 0} {Word : List ℕ → X → Type 0} (says : List ℕ → Option X) → ((text : List ℕ) (x : X) → Word text x → IsPlainText text)
    → ((text : List ℕ) (x : X) → says text ≡ Some x → Word text x) → ((text : List ℕ) (x : X) → Word text x → says text ≡ Some x) → Finds found_with GoesOn Ends Word (plain_at says)
finds_said says plain found again = finds_is (λ text goes. goes) found again (finds_plain says (λ text x e. plain text x (found text x e)))

-- a field is read
pub finds_field : (counts : Counts) (kind : Kind) → (kind ≡ Z → ⊥) → Finds found_with GoesOn Ends (IsFieldText counts.vertices counts.arcs kind) (field_at counts kind)
finds_field counts Z used = absurd (used refl)
finds_field counts I used = finds_as Int (finds_said integer_of integer_is_plain integer_found integer_again)
finds_field counts V used =
    finds_as VertexField (finds_said (ref_of counts.vertices) (λ text r e. (ref_says counts.vertices text r e).0) (ref_found counts.vertices) (ref_again counts.vertices))
finds_field counts S used = finds_as Str (finds_string most_bytes)
finds_field counts A used =
    finds_as Chain (finds_said (record_number_of counts.arcs) (λ text k e. (record_number_says counts.arcs text k e).0) (record_number_found counts.arcs) (record_number_again counts.arcs))

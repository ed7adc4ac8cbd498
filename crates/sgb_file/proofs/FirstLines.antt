-- First lines: what one that is read says, and how its kinds and numbers are read.
use Rattle.sgb_vec.proofs.Common.{rules, ap, sym, subst, ◌∙◌, arith, ◌≡◌, ℕ, ◌≤◌, true, false, List, [], ◌∷◌, ◌++◌, map, length, take, drop, codes, Some, filter_map, nat_le, ◌==◌, refl, prefix_len, list_all, take-append_seam, drop-append_seam, and_parts, Decides-eqb, nat_tests, take-append-drop, length-map, length-take, take_while-cons}
use Rattle.sgb_text.proofs.Findings.{Found, after_prefix, prefix_is, taken_and_left, was_given, was_mapped, was_let_through}
use Rattle.sgb_vec.specs.Limits.{most_vertices}
use Rattle.sgb_graph.specs.declared.fields.Kind.{Kind}
use Rattle.sgb_graph.specs.Kinds.{letter_of}
use Rattle.sgb_file.specs.Fields.{most_number_digits}
use Rattle.sgb_text.specs.Numbers.{IsNumber}
use Rattle.sgb_file.specs.inner.FieldValues.{is_decimal_digit, number_of}
use Rattle.sgb_file.specs.inner.Heads.{Head, BeginsWithNoDigit, SaysHead}
use Rattle.sgb_file.specs.inner.ReadFiles.{kind_of_letter, kinds_at, leading_number, head_of_line}
use Rattle.sgb_file.proofs.NumberReading.{at_most, number_says}
use Rattle.sgb_file.proofs.FieldsAndTexts.{digits_again, digits_found}

-- a text has no more kinds than letters
pub no_more_kinds : (xs : List ℕ) → length (filter_map kind_of_letter xs) ≤ length xs
no_more_kinds [] = omega arith
no_more_kinds (x ∷ xs) = grind (arith, no_more_kinds xs)

-- letters that all stand for kinds are those of the kinds
all_letters : (letters : List ℕ) → length letters ≤ length (filter_map kind_of_letter letters) → letters ≡ map letter_of (filter_map kind_of_letter letters)
all_letters [] h = refl
all_letters (c ∷ letters) h = grind (arith, no_more_kinds, all_letters letters, nat_tests)

-- fourteen kinds are those of the letters
kinds_found : (text : List ℕ) (found : Found (List Kind)) → kinds_at text ≡ Some found → (length found.value ≡ 14) × (text ≡ map letter_of found.value ++ found.rest)
kinds_found text found e =
    let t = was_let_through (length (filter_map kind_of_letter (take 14 text)) == 14) (record { value = filter_map kind_of_letter (take 14 text); rest = drop 14 text }) found e in
    grind (arith, Decides-eqb, length-take, Found, take-append-drop, t, all_letters (take 14 text))

-- the digits that a text begins with, and what follows them
pub record IsLeading (text : List ℕ) (found : Found ℕ) : Type 0 where
  pub digits : List ℕ
  pub says : number_of most_number_digits digits ≡ Some found.value
  pub parts : text ≡ digits ++ found.rest
  pub ends : BeginsWithNoDigit found.rest

no_digit_left : (text : List ℕ) → BeginsWithNoDigit (drop (length (take (prefix_len is_decimal_digit text) text)) text)
no_digit_left [] = refl
no_digit_left (b ∷ text) = let digits = take_while-cons is_decimal_digit b text in grind (arith, digits, no_digit_left text)

pub leading_found : (text : List ℕ) (found : Found ℕ) → leading_number text ≡ Some found → IsLeading text found
leading_found text found e = grind (arith, was_mapped, Found, IsLeading, taken_and_left, no_digit_left)

-- a line that is read as a first line is one
pub first_line_found : (line : List ℕ) (head : Head) → head_of_line line ≡ Some head → SaysHead head line
first_line_found line head e =
    let letters = was_given (after_prefix (codes "* GraphBase graph (util_types ") line) e in
    let kinds = was_given (kinds_at letters.first) letters.made in
    let second = was_given (after_prefix (codes ",") kinds.first.rest) kinds.made in
    let n = was_given (leading_number second.first) second.made in
    let third = was_given (after_prefix (codes "V,") n.first.rest) n.made in
    let m = was_given (leading_number third.first) third.made in
    let anything = was_given (after_prefix (codes "A)") m.first.rest) m.made in
    let says : Head = record { kinds = kinds.first.value; counts = record { vertices = n.first.value; arcs = m.first.value } } in
    let through = was_let_through (nat_le n.first.value most_vertices) says head anything.made in
    let k = kinds_found letters.first kinds.first kinds.here in
    let n_is = leading_found second.first n.first n.here in
    let m_is = leading_found third.first m.first m.here in
    let after_letters = ap (λ x. codes "," ++ x) (n_is.parts ∙ ap (λ x. n_is.digits ++ x) (prefix_is (codes "V,") n.first.rest third.first third.here
    ∙ ap (λ x. codes "V," ++ x) (m_is.parts ∙ ap (λ x. m_is.digits ++ x) (prefix_is (codes "A)") m.first.rest anything.first anything.here)))) in
    subst (λ (h : Head). SaysHead h line) through.1 (
      n_is.digits,
      m_is.digits,
      anything.first,
      digits_found most_number_digits n_is.digits n.first.value n_is.says,
      digits_found most_number_digits m_is.digits m.first.value m_is.says,
      k.0,
      at_most n.first.value most_vertices through.0,
      prefix_is (codes "* GraphBase graph (util_types ") line letters.first letters.here
          ∙ ap (λ x. codes "* GraphBase graph (util_types " ++ x) (k.1 ∙ ap (λ x. map letter_of kinds.first.value ++ x) (prefix_is (codes ",") kinds.first.rest second.first second.here ∙ after_letters)),
    )

-- digits end where they did
digits_end : (text more : List ℕ) → list_all is_decimal_digit text ≡ true → BeginsWithNoDigit more → prefix_len is_decimal_digit (text ++ more) ≡ length text
digits_end [] [] h e = refl
digits_end [] (b ∷ more) h e = let other : is_decimal_digit b ≡ false = e in rw other refl
digits_end (b ∷ text) more h e = grind (arith, and_parts, digits_end text more (and_parts (is_decimal_digit b) (list_all is_decimal_digit text) h).1 e)

-- the number that a text begins with is read
pub leading_says : (digits more : List ℕ) (k : ℕ) → IsNumber 10 most_number_digits digits k → BeginsWithNoDigit more → leading_number (digits ++ more) ≡ Some (record { value = k; rest = more })
leading_says digits more k is none =
    let says = digits_again most_number_digits digits k is in
    search (rules, digits, digits_end, number_says, says, take-append_seam, drop-append_seam)

-- the kinds are read of their letters
letters_say : (kinds : List Kind) → filter_map kind_of_letter (map letter_of kinds) ≡ kinds
letters_say [] = refl
letters_say (kind ∷ kinds) = grind (arith, letters_say kinds)

pub kinds_read : (kinds : List Kind) (more : List ℕ) → length kinds ≡ 14 → kinds_at (map letter_of kinds ++ more) ≡ Some (record { value = kinds; rest = more })
kinds_read kinds more h =
    let count : 14 ≡ length (map letter_of kinds) = sym (length-map kinds letter_of ∙ h) in
    rw (count, take-append_seam (map letter_of kinds) more, letters_say kinds, drop-append_seam (map letter_of kinds) more) (grind (arith, nat_tests, count, letters_say))

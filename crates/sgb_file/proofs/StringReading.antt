-- Lemmas on strings that are read part by part, each on a line.
use Rattle.sgb_vec.proofs.Common.{ap, ◌∙◌, append_assoc, arith, ◌≡◌, ℕ, zero, suc, ◌+◌, ◌-◌, ◌<◌, ◌≤◌, Bool, true, false, not, List, [], ◌∷◌, ◌++◌, length, length-append, take, drop, Some, None, ◌==◌, ◌↔◌, Result, IfOk, IsErrOf, IsOkUnless, slice_index_or, refl, list_all, position, position_or_len, after_first, take-append-add, drop-append-add, and_parts, not-true, nat_tests, take-append-le, AllPass-from_list_all, list_all-from_AllPass, list_all-append}
use Rattle.sgb_text.proofs.Findings.{after_prefix, was_let_through}
use Rattle.sgb_vec.specs.Limits.{most_bytes}
use Rattle.sgb_vec.specs.Names.{IsText, is_text_byte}
use Rattle.sgb_vec.specs.declared.panics.Panic.{Panic}
use Rattle.sgb_vec.specs.declared.panics.Panic.TheVariants.{NoRoom, Syntax}
use Rattle.sgb_graph.specs.Ids.{most_id_bytes, IsId}
use Rattle.sgb_file.specs.inner.ReadFields.{string_at}
use Rattle.sgb_file.specs.Fields.{unbroken}
use Rattle.sgb_file.specs.inner.Found.{IsFoundBy, IsPartOf, IsNoString, checked_text, goes_on, is_broken, string_before, string_from}
use Rattle.sgb_file.specs.inner.LinesLeft.{has_no_newline}
use Rattle.sgb_file.proofs.LineLemmas.{list_all-take}
use Rattle.sgb_file.proofs.LeftTexts.{none_before, first_beyond, any_beyond, first_within, any_within}

abbrev pub is_quote : ℕ → Bool
is_quote b = b == 34

-- after its opening quote a string goes on with no bytes
pub opened : (most : ℕ) (text left : List ℕ) → after_prefix (34 ∷ []) text ≡ Some left → string_at most text ≡ string_from most [] left
opened most text left e = grind (arith, nat_tests)

pub not_opened : (most : ℕ) (text : List ℕ) → after_prefix (34 ∷ []) text ≡ None → string_at most text ≡ None
not_opened most text e = grind (arith, nat_tests)

-- bytes of one line say themselves
pub unbroken_line : (x : List ℕ) → has_no_newline x ≡ true → unbroken x ≡ x
unfolding unbroken
unbroken_line [] h = refl
unbroken_line (b ∷ x) h = grind (arith, and_parts, not-true, unbroken_line x)

-- where the place of a quote was found
pub record HasQuote (line : List ℕ) (end : ℕ) : Type 0 where
  pub at : position_or_len is_quote line ≡ end
  pub within : end < length line

pub has_quote : (line : List ℕ) (end : ℕ) → Some end ≡ position is_quote line → HasQuote line end
has_quote line end e = grind (arith, was_let_through, is_quote, nat_tests)

pub no_quote : (line : List ℕ) → None ≡ position is_quote line → list_all (λ c. not (is_quote c)) line ≡ true
no_quote line e = none_before is_quote line (grind (arith, nat_tests))

-- a part that ends with the closing quote
pub last_part : (line more : List ℕ) (end : ℕ) → has_no_newline line ≡ true → HasQuote line end → IsPartOf (line ++ more) (take end line) true (drop (end + 1) (line ++ more))
last_part line more end h quote most bytes = grind (arith, is_quote, first_within, take-append-le, unbroken_line, list_all-take, any_within)

-- a line and its newline, where the line's last byte may be a `\`
line_bytes : (line y : List ℕ) (k : ℕ) → suc k ≡ length line → has_no_newline line ≡ true → unbroken (line ++ 10 ∷ y) ≡ take k line ++ unbroken (slice_index_or line k 0 ∷ 10 ∷ y)
unfolding unbroken
line_bytes (b ∷ []) y zero e h = refl
line_bytes (b ∷ c ∷ line) y (suc k) e h = grind (arith, and_parts, not-true, line_bytes (c ∷ line) y k (omega (arith, e)) (and_parts (not (b == 10)) (has_no_newline (c ∷ line)) h).1)
line_bytes _ y _ e h = absurd (omega (arith, e))

-- a line that goes on with the next one
broken_bytes : (line y : List ℕ) → has_no_newline line ≡ true → is_broken line ≡ true → unbroken (line ++ 10 ∷ y) ≡ take (length line - 1) line ++ unbroken y
unfolding unbroken
broken_bytes [] y h last = absurd cc
broken_bytes (b ∷ line) y h last = rw (line_bytes (b ∷ line) y (length (b ∷ line) - 1) (omega arith) h, last) refl

pub broken_part : (line more : List ℕ) → has_no_newline line ≡ true → list_all (λ c. not (is_quote c)) line ≡ true → is_broken line ≡ true → IsPartOf (line ++ 10 ∷ more) (take (length line - 1) line) false more
broken_part line more h none broken most bytes =
    let place : position_or_len is_quote (line ++ 10 ∷ more) ≡ length line + suc (position_or_len is_quote more) = grind (arith, first_beyond, is_quote) in
    let after : after_first is_quote (line ++ 10 ∷ more) ≡ after_first is_quote more =
    ap (λ (k : ℕ). drop k (line ++ 10 ∷ more)) (ap (λ (k : ℕ). k + 1) place ∙ omega arith) ∙ drop-append-add line (10 ∷ more) (suc (position_or_len is_quote more + 1)) in
    grind (arith, is_quote, take-append-add, broken_bytes, append_assoc, any_beyond, place, after)

-- a line that does not: its newline would be a byte of the string
line_refused : (line y : List ℕ) → has_no_newline line ≡ true → is_broken line ≡ false → list_all is_text_byte (unbroken (line ++ 10 ∷ y)) ≡ false
unfolding unbroken
line_refused [] y h last = grind (arith)
line_refused (b ∷ line) y h last = rw (line_bytes (b ∷ line) y (length (b ∷ line) - 1) (omega arith) h, last) (simp list_all-append (grind (arith)))

pub ended_line : (line more : List ℕ) → has_no_newline line ≡ true → list_all (λ c. not (is_quote c)) line ≡ true → is_broken line ≡ false → IsNoString (line ++ 10 ∷ more)
ended_line line more h none last most bytes = grind (arith, is_quote, first_beyond, take-append-add, list_all-append, line_refused)

-- the parts of a string so far: the string that began with the first one goes on so
abbrev pub IsGathered : List ℕ → List ℕ → Bool → List ℕ → List ℕ → Type 0
IsGathered first text closed bytes left = (most : ℕ) → string_from most first text ≡ goes_on closed most bytes left

pub text_found : (bytes left : List ℕ) (r : Result (List ℕ) Panic) → IfOk r (λ s. (s ≡ bytes) × IsText bytes) → (IsErrOf r Syntax ↔ ¬ IsText bytes) → (IsText bytes → IsOkUnless r NoRoom) → IsFoundBy (string_before most_bytes bytes left) r left
text_found bytes left r ok refused err = grind (arith, nat_tests, AllPass-from_list_all, list_all-from_AllPass)

pub id_found : (bytes left : List ℕ) (r : Result (List ℕ) Panic) → IfOk r (λ s. (s ≡ bytes) × IsId bytes) → (IsErrOf r Syntax ↔ ¬ IsId bytes) → IsOkUnless r Syntax → IsFoundBy (string_before most_id_bytes bytes left) r left
id_found bytes left r ok refused err = grind (arith, nat_tests, AllPass-from_list_all, list_all-from_AllPass)

-- a line that is broken has a byte
pub broken_some : (line : List ℕ) → true ≡ is_broken line → 1 ≤ length line
broken_some [] e = absurd cc
broken_some (b ∷ line) e = omega arith

-- a string is not found where its bytes so far are too many
too_many_bytes : (most : ℕ) (bytes more : List ℕ) → most < length bytes → checked_text most (bytes ++ more) ≡ None
too_many_bytes most bytes more many = grind (arith, length-append, nat_tests)

pub too_long : (closed : Bool) (most : ℕ) (bytes text : List ℕ) → most < length bytes → goes_on closed most bytes text ≡ None
too_long true most bytes text many = grind (arith, nat_tests)
too_long false most bytes text many = grind (arith, too_many_bytes)

-- Lemmas on the text that is left of a file's lines.
use Rattle.sgb_vec.proofs.Common.{rules, ap, sym, ◌∙◌, append_assoc, arith, ◌≡◌, ℕ, ◌+◌, ◌<◌, ◌≤◌, Bool, true, not, ◌||◌, List, [], ◌∷◌, ◌++◌, length, take, drop, codes, Some, None, ◌==◌, slice_get, refl, list_any, list_all, position_or_len, prefix_len, before_first, option_map_or, and_parts, not-true, nat_tests, drop-append-le, get_or-take, length-append, take-append-le, length-take, prefix_len-append, fails_before_first, list_all-from_AllPass, prefix_len-le-length, prefix_len_passes}
use Rattle.sgb_text.proofs.Findings.{after_prefix}
use Rattle.sgb_file.specs.FileLines.{text_of_lines}
use Rattle.sgb_file.specs.inner.ReadFields.{plain_text}
use Rattle.sgb_file.specs.inner.LinesLeft.{LinesLeft, text_left, skipped, next_begun, has_no_newline}

-- the text of a line under way, and of those after it
pub under_way : (s : LinesLeft) (line : List ℕ) → Some line ≡ s.line → text_left s ≡ line ++ 10 ∷ text_of_lines s.others
under_way s line e = rw (← e) refl

pub skipped_left : (s : LinesLeft) (line : List ℕ) (k : ℕ) → Some line ≡ s.line → k ≤ length line → text_left (skipped k s) ≡ drop k (text_left s)
skipped_left s line k e h = rw (← e) (sym (drop-append-le k line (10 ∷ text_of_lines s.others) h))

pub begun_text : (others : List (List ℕ)) → option_map_or (λ line. line ++ 10 ∷ text_of_lines (drop 1 others)) (slice_get others 0) [] ≡ text_of_lines others
begun_text [] = refl
begun_text (line ∷ lines) = sym (append_assoc line (10 ∷ []) (text_of_lines lines))

pub next_left : (s : LinesLeft) → text_left (next_begun s) ≡ text_of_lines s.others
next_left s = begun_text s.others

-- a text that begins with a line that is not empty does not begin with a newline
pub no_line_end : (line more : List ℕ) → has_no_newline line ≡ true → 0 < length line → after_prefix (codes "\n") (line ++ more) ≡ None
no_line_end [] more h some = absurd (omega (arith, some))
no_line_end (b ∷ line) more h some = grind (arith, and_parts, not-true, nat_tests)

pub line_goes_on : (s : LinesLeft) (line : List ℕ) → Some line ≡ s.line → has_no_newline line ≡ true → 0 < length line → after_prefix (codes "\n") (text_left s) ≡ None
line_goes_on s line e h some = ap (after_prefix (codes "\n")) (under_way s line e) ∙ no_line_end line (10 ∷ text_of_lines s.others) h some

-- the first elements pass that do
pub prefix_passes : {X : Type 0} (p : X → Bool) (xs : List X) → list_all p (take (prefix_len p xs) xs) ≡ true
prefix_passes p xs = search (rules, list_all-from_AllPass, length-take, get_or-take, prefix_len_passes)

-- a list none of whose elements passes before its end
pub none_before : (p : ℕ → Bool) (x : List ℕ) → length x ≤ position_or_len p x → list_all (λ c. not (p c)) x ≡ true
none_before p x h = list_all-from_AllPass (λ c. not (p c)) x (λ k d below. ap not (fails_before_first p x k d (omega (arith, below, h))))

-- the first place that passes, after such a list
pub first_beyond : (p : ℕ → Bool) (x y : List ℕ) → list_all (λ c. not (p c)) x ≡ true → position_or_len p (x ++ y) ≡ length x + position_or_len p y
first_beyond p [] y h = omega arith
first_beyond p (b ∷ x) y h = grind (arith, and_parts, first_beyond p x y (and_parts (not (p b)) (list_all (λ c. not (p c)) x) h).1)

pub any_beyond : (p : ℕ → Bool) (x y : List ℕ) → list_all (λ c. not (p c)) x ≡ true → list_any p (x ++ y) ≡ list_any p y
any_beyond p [] y h = refl
any_beyond p (b ∷ x) y h = grind (arith, and_parts, not-true, any_beyond p x y (and_parts (not (p b)) (list_all (λ c. not (p c)) x) h).1)

-- the first place that passes, where it is in the first of two lists
pub first_within : (p : ℕ → Bool) (x y : List ℕ) → position_or_len p x < length x → position_or_len p (x ++ y) ≡ position_or_len p x
first_within p x y h = grind (arith, nat_tests, prefix_len-append)

pub passes_within : (p : ℕ → Bool) (x : List ℕ) → list_any p x ≡ true → position_or_len p x < length x
passes_within p [] h = absurd cc
passes_within p (b ∷ x) h = grind (arith, passes_within p x)

pub any_within : (p : ℕ → Bool) (x y : List ℕ) → position_or_len p x < length x → list_any p (x ++ y) ≡ true
any_within p [] y h = absurd (omega (arith, h))
any_within p (b ∷ x) y h = grind (arith, any_within p x y)

plain_length : (line more : List ℕ) → has_no_newline line ≡ true → position_or_len (λ b. b == 44 || b == 10) (line ++ 10 ∷ more) ≡ position_or_len (λ b. b == 44) line
plain_length [] more h = refl
plain_length (b ∷ line) more h = grind (arith, and_parts, plain_length line more)

pub plain_of_line : (line more : List ℕ) → has_no_newline line ≡ true → before_first (λ b. b == 44) line ≡ plain_text (line ++ 10 ∷ more)
plain_of_line line more h =
    rw (plain_length line more h) (sym (take-append-le (position_or_len (λ b. b == 44) line) line (10 ∷ more) (prefix_len-le-length (λ b. not (b == 44)) line)))

-- what is left after a line is shorter than what was left with it
pub begun_shorter : (line others : List ℕ) → length others < length (line ++ 10 ∷ others)
begun_shorter line others = omega (arith, length-append line (10 ∷ others))

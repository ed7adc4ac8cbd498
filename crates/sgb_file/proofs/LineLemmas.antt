-- Lemmas on lines that are written one after another: they are the lines that are read.
use Rattle.sgb_vec.proofs.Common.{ap, sym, ◌∙◌, append_assoc, append-nil, arith, rules, ◌≡◌, ℕ, Bool, true, false, not, ◌&&◌, List, [], ◌∷◌, ◌++◌, length, take, drop, ◌==◌, refl, zero, suc, list_all, slice_split, and_parts, and_from, not-true, All-drop, All-take, list_all-append, AllPass-from_list_all, list_all-from_AllPass, nat_tests, Decides-eqb}
use Rattle.sgb_graph.proofs.Lists.{list_all-mapped}
use Rattle.sgb_file.specs.FileLines.{lines_among, without_end_spaces, clean_lines, text_of_lines}
use Rattle.sgb_file.specs.inner.LinesLeft.{lines_of_text}
use Rattle.std.proofs.lemmas.List.Splits.{slice_split_at}

-- the byte is no newline
abbrev pub is_within_line : ℕ → Bool
is_within_line b = not (b == 10)

-- there is no newline in the line
abbrev pub is_one_line : List ℕ → Bool
is_one_line line = list_all is_within_line line

-- the line's last byte is no space
unfoldable pub ends_well : List ℕ → Bool
ends_well [] = true
ends_well (b ∷ []) = not (b == 32)
ends_well (b ∷ c ∷ line) = ends_well (c ∷ line)

-- a line as it is written: no newline in it, and no space at its end
abbrev pub is_line : List ℕ → Bool
is_line line = is_one_line line && ends_well line

-- what the test for no bytes says
pub no_bytes : (bytes : List ℕ) → (length bytes == 0) ≡ true → bytes ≡ []
no_bytes [] e = refl
no_bytes (b ∷ bytes) e = absurd (omega (arith, (Decides-eqb (length (b ∷ bytes)) 0).0 e))

-- a part that others follow is a line
pub first_line : (line text : List ℕ) → lines_among (line ∷ slice_split (λ b. b == 10) text) ≡ line ∷ lines_among (slice_split (λ b. b == 10) text)
unfolding lines_among
first_line line [] = refl
first_line line (b ∷ text) = grind arith

-- a line is the first one of its text
pub line_read : (line rest : List ℕ) → is_one_line line ≡ true → lines_of_text (line ++ 10 ∷ rest) ≡ line ∷ lines_of_text rest
line_read line rest h = search (rules, slice_split_at, AllPass-from_list_all, not-true, first_line)

-- the lines of a text are those that it was made of, and then those of what follows
pub lines_read : (lines : List (List ℕ)) (more : List ℕ) → list_all is_one_line lines ≡ true → lines_of_text (text_of_lines lines ++ more) ≡ lines ++ lines_of_text more
lines_read [] more h = refl
lines_read (line ∷ lines) more h = grind (arith, and_parts, is_one_line, append_assoc, line_read, lines_read lines more)

-- the lines of a text whose lines these are
pub lines_again : (lines : List (List ℕ)) → list_all is_one_line lines ≡ true → lines_of_text (text_of_lines lines) ≡ lines
unfolding lines_among
lines_again lines h = ap lines_of_text (sym (append-nil (text_of_lines lines))) ∙ lines_read lines [] h ∙ append-nil lines

-- a line that ends with no space stays as it is
pub stays_clean : (line : List ℕ) → ends_well line ≡ true → without_end_spaces line ≡ line
unfolding ends_well without_end_spaces
stays_clean [] h = refl
stays_clean (b ∷ line) h = grind (arith, nat_tests, stays_clean line)

-- the clean lines of a text are those that it was made of, and then those of what follows
pub clean_lines_read : (lines : List (List ℕ)) (more : List ℕ) → list_all is_line lines ≡ true → clean_lines (text_of_lines lines ++ more) ≡ lines ++ clean_lines more
clean_lines_read [] more h = refl
clean_lines_read (line ∷ lines) more h = grind (arith, and_parts, append_assoc, line_read, stays_clean, clean_lines_read lines more)

-- the parts of a text have no newlines
parts_in_line : (text : List ℕ) → list_all is_one_line (slice_split (λ b. b == 10) text) ≡ true
parts_in_line [] = refl
parts_in_line (b ∷ text) = grind (arith, parts_in_line text)

-- nor have the lines among them
among_in_line : (parts : List (List ℕ)) → list_all is_one_line parts ≡ true → list_all is_one_line (lines_among parts) ≡ true
unfolding lines_among
among_in_line [] h = refl
among_in_line (part ∷ parts) h = grind (arith, and_parts, and_from, among_in_line parts)

-- nor a line without its spaces
cleaned_in_line : (line : List ℕ) → is_one_line line ≡ true → is_one_line (without_end_spaces line) ≡ true
unfolding without_end_spaces
cleaned_in_line [] h = refl
cleaned_in_line (b ∷ line) h = grind (arith, and_parts, cleaned_in_line line)

-- the clean lines of any text have no newlines
pub clean_are_one_line : (text : List ℕ) → list_all is_one_line (clean_lines text) ≡ true
clean_are_one_line text =
    list_all-mapped is_one_line is_one_line without_end_spaces (lines_of_text text) cleaned_in_line
    (among_in_line (slice_split (λ b. b == 10) text) (parts_in_line text))

-- a line is one with a part after it, or with its beginning left out
pub ends_well-append : (x y : List ℕ) → ends_well x ≡ true → ends_well y ≡ true → ends_well (x ++ y) ≡ true
unfolding ends_well
ends_well-append [] y h e = e
ends_well-append (b ∷ x) y h e = grind (arith, ends_well-append x y)

pub ends_well-drop : (k : ℕ) (x : List ℕ) → ends_well x ≡ true → ends_well (drop k x) ≡ true
unfolding ends_well
ends_well-drop zero x h = h
ends_well-drop (suc k) [] h = refl
ends_well-drop (suc k) (b ∷ x) h = grind (arith, ends_well-drop k x)

-- what ends with a text that is not empty ends as it does
pub ends_with : (x : List ℕ) (b : ℕ) (y : List ℕ) → ends_well (b ∷ y) ≡ true → ends_well (x ++ b ∷ y) ≡ true
unfolding ends_well
ends_with [] b y h = h
ends_with (c ∷ []) b y h = h
ends_with (c ∷ d ∷ x) b y h = ends_with (d ∷ x) b y h

-- a line that ends with this byte
pub ends_well-last : (x : List ℕ) (b : ℕ) → (b == 32) ≡ false → ends_well (x ++ b ∷ []) ≡ true
unfolding ends_well
ends_well-last x b h = grind (arith, ends_with)

-- a test of each element, of a part of a list
pub list_all-drop : {X : Type 0} (p : X → Bool) (k : ℕ) (x : List X) → list_all p x ≡ true → list_all p (drop k x) ≡ true
list_all-drop p k x h = list_all-from_AllPass p (drop k x) (All-drop (λ b. p b ≡ true) k x (AllPass-from_list_all p x h))

pub list_all-take : {X : Type 0} (p : X → Bool) (k : ℕ) (x : List X) → list_all p x ≡ true → list_all p (take k x) ≡ true
list_all-take p k x h = list_all-from_AllPass p (take k x) (All-take (λ b. p b ≡ true) k x (AllPass-from_list_all p x h))

pub list_all-join : {X : Type 0} (p : X → Bool) (x y : List X) → list_all p x ≡ true → list_all p y ≡ true → list_all p (x ++ y) ≡ true
list_all-join p x y h e = list_all-append p x y ∙ and_from (list_all p x) (list_all p y) h e

-- a line with a part after it, and without its beginning
pub line-append : (x y : List ℕ) → is_line x ≡ true → is_line y ≡ true → is_line (x ++ y) ≡ true
line-append x y h e = grind (arith, and_parts, is_one_line, ends_well, and_from, list_all-join, is_within_line, ends_well-append)

pub line-drop : (k : ℕ) (x : List ℕ) → is_line x ≡ true → is_line (drop k x) ≡ true
line-drop k x h = grind (arith, and_parts, and_from, list_all-drop, ends_well-drop)

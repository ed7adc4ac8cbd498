-- Lemmas on the text of pieces that are laid out: what stands after a line's beginning.
use Rattle.sgb_vec.proofs.Common.{append_assoc, append-nil, arith, length-append, rules, ◌≡◌, ℕ, zero, suc, ◌+◌, ◌*◌, ◌<◌, ◌≤◌, Bool, true, false, cond, not, List, [], ◌∷◌, ◌++◌, length, take, drop, ◌==◌, refl, ◌↔◌, All, nat_le, list_all, and_parts, and_from, flat_map-append, take-append-le, drop-append-le, length-drop, length-take, AllPass-from_list_all, list_all-from_AllPass, list_all-append, nat_tests}
use Rattle.sgb_file.specs.FileLines.{text_of_lines}
use Rattle.sgb_file.specs.Saving.{breaks_of, laid_out, pieces_of, record_lines, most_file_line_bytes, part_from_break}
use Rattle.sgb_file.specs.inner.SavedLines.{broken_lines, last_part, fits_on, line_begun}
use Rattle.sgb_file.specs.inner.Layouts.{has_any, piece_of}
use Rattle.sgb_file.proofs.BrokenLines.{breaks-long, breaks-short, broken-long, broken-short, last-long, last-short}
use Rattle.sgb_file.proofs.LineLemmas.{no_bytes, is_line, is_one_line, is_within_line, ends_well, ends_well-last, line-append, line-drop, list_all-take, list_all-join}
use Rattle.sgb_graph.proofs.Lists.{list_all-made}

-- the line has at most 79 bytes
abbrev pub is_short : List ℕ → Bool
is_short line = nat_le (length line) most_file_line_bytes

-- the test of at most 79 bytes
short_by_length : (line : List ℕ) → length line ≤ 79 → is_short line ≡ true
short_by_length line h = grind (arith, nat_tests)

-- the lines of pieces that are laid out pass a test that broken lines pass, and each line that is begun
pub laid_out_pass : (P Q : List ℕ → Bool) → ((piece : List ℕ) → Q piece ≡ true → (k : ℕ) → P (take 78 (drop (78 * k) piece) ++ 92 ∷ []) ≡ true)
    → ((fits : Bool) (line piece : List ℕ) → fits_on line piece ≡ fits → P line ≡ true → Q piece ≡ true → P (cond fits (line ++ piece) (last_part piece)) ≡ true)
    → (line : List ℕ) (pieces : List (List ℕ)) → P line ≡ true → list_all Q pieces ≡ true → list_all P (laid_out line pieces) ≡ true
unfolding laid_out
laid_out_pass P Q broken begun line [] h e = rw h refl
laid_out_pass P Q broken begun line (piece ∷ pieces) h e = grind (arith, and_parts, list_all-made, list_all-append, laid_out_pass P Q broken begun (line_begun line piece) pieces)

-- the lines of pieces that are laid out after a short beginning are short
pub laid_out_are_short : (line : List ℕ) (pieces : List (List ℕ)) → is_short line ≡ true → list_all is_short (laid_out line pieces) ≡ true
laid_out_are_short line pieces h =
    laid_out_pass is_short (λ piece. true) (λ piece any i. short_by_length (take 78 (drop (78 * i) piece) ++ 92 ∷ []) (rw (length-append, length-take) (omega arith)))
    (λ fits line piece f h any. short_by_length (cond fits (line ++ piece) (last_part piece)) (grind (arith, nat_tests, length-append, length-drop)))
    line pieces h (list_all-from_AllPass (λ piece. true) pieces (λ k d below. refl))

-- lines that all pass the test are short
pub short_lines : (lines : List (List ℕ)) → list_all is_short lines ≡ true → All (λ line. length line ≤ most_file_line_bytes) lines
short_lines lines e = λ k d below. grind (arith, nat_tests, AllPass-from_list_all is_short lines e k d below)

-- a piece is broken as long as more than 79 bytes are left of it
pub broken_further : (piece : List ℕ) (k : ℕ) → (k < breaks_of piece) ↔ (most_file_line_bytes < length (part_from_break piece k))
broken_further piece k = grind (arith, length-drop)

-- the text with so many breaks in it, each a `\` (92) and a newline (10): after its first bytes, and then after
-- each 78
unfoldable pub with_breaks : ℕ → ℕ → List ℕ → List ℕ
with_breaks zero first text = text
with_breaks (suc n) first text = take first text ++ 92 ∷ 10 ∷ with_breaks n 78 (drop first text)

-- the text of a piece that is broken
abbrev broken_piece : List ℕ → List ℕ
broken_piece piece = text_of_lines (broken_lines piece) ++ last_part piece

broken_by : (n : ℕ) (piece : List ℕ) → length piece < n → broken_piece piece ≡ with_breaks (breaks_of piece) 78 piece
unfolding with_breaks
broken_by zero piece h = absurd (omega (arith, h))
broken_by (suc n) piece h = grind (arith, length-drop, broken-long, last-long, breaks-long, broken-short, last-short, breaks-short, append_assoc, broken_by n (drop 78 piece))

broken_is : (piece : List ℕ) → broken_piece piece ≡ with_breaks (breaks_of piece) 78 piece
broken_is piece = broken_by (suc (length piece)) piece (omega arith)

-- the newline that ends a line which has begun
abbrev line_end : List ℕ → List ℕ
line_end line = cond (length line == 0) [] (10 ∷ [])

-- what stands after a line's beginning, where pieces are laid out
unfoldable pub after_line : List ℕ → List (List ℕ) → List ℕ
after_line line [] = 10 ∷ []
after_line line (piece ∷ pieces) =
    cond (fits_on line piece) piece (line_end line ++ broken_piece piece) ++ after_line (line_begun line piece) pieces

-- the text of pieces that are laid out after a line's beginning
pub laid_out_text : (line : List ℕ) (pieces : List (List ℕ)) → text_of_lines (laid_out line pieces) ≡ line ++ after_line line pieces
unfolding laid_out after_line
laid_out_text line [] = append-nil (line ++ 10 ∷ [])
laid_out_text line (piece ∷ pieces) = grind (arith, flat_map-append, append_assoc, no_bytes, laid_out_text (line_begun line piece) pieces)

-- breaks within the first part of a text
pub breaks_within : (n first : ℕ) (x y : List ℕ) → first + 78 * n ≤ length x + 78 → with_breaks n first (x ++ y) ≡ with_breaks n first x ++ y
unfolding with_breaks
breaks_within zero first x y h = refl
breaks_within (suc n) first x y h = grind (arith, length-drop, take-append-le, drop-append-le, append_assoc, breaks_within n 78 (drop first x) y)

-- what stands after a field, where others follow on this line: their comma and they, or the end of the line
abbrev pub after_field : List ℕ → List (List ℕ) → List ℕ
after_field line [] = 10 ∷ []
after_field line (text ∷ texts) = 44 ∷ after_line line (pieces_of (text ∷ texts))

-- how a field's text stands after a line's beginning
pub record IsLaidOut (line text : List ℕ) (texts : List (List ℕ)) : Type 0 where
  pub gap : Bool
  pub breaks : ℕ
  pub next : List ℕ
  pub whole : after_line line (pieces_of (text ∷ texts)) ≡ cond gap (10 ∷ []) [] ++ (with_breaks breaks 78 text ++ after_field next texts)
  pub few : 0 < breaks → 78 * breaks + 1 ≤ length text
  pub starts : (length line == 0) ≡ true → gap ≡ false

pub lay_out : (line text : List ℕ) (texts : List (List ℕ)) → IsLaidOut line text texts
unfolding with_breaks after_line pieces_of
lay_out line text texts =
    let piece = piece_of (has_any texts) text in
    record {
      gap = cond (fits_on line piece) false (not (length line == 0));
      breaks = cond (fits_on line piece) 0 (breaks_of piece);
      next = line_begun line piece;
      whole = grind (arith, append_assoc, append-nil, broken_is, breaks_within, length-append, texts);
      few = grind (arith, length-append, texts);
      starts = grind arith;
    }

-- each line of pieces that are laid out is a line as it is written
broken_is_line : (piece : List ℕ) → is_line piece ≡ true → (k : ℕ) → is_line (take 78 (drop (78 * k) piece) ++ 92 ∷ []) ≡ true
broken_is_line piece h k =
    let left = and_parts (is_one_line (drop (78 * k) piece)) (ends_well (drop (78 * k) piece)) (line-drop (78 * k) piece h) in
    search (rules, and_from, is_one_line, list_all-join, is_within_line, list_all-take, ends_well-last, left)

pub laid_out_are_lines : (line : List ℕ) (pieces : List (List ℕ)) → is_line line ≡ true → list_all is_line pieces ≡ true → list_all is_line (laid_out line pieces) ≡ true
laid_out_are_lines line pieces h e = grind (arith, laid_out_pass, is_line, broken_is_line, line-append, line-drop)

-- the pieces of texts that are lines are lines
pieces_are_lines : (texts : List (List ℕ)) → list_all is_line texts ≡ true → list_all is_line (pieces_of texts) ≡ true
unfolding pieces_of ends_well
pieces_are_lines [] h = refl
pieces_are_lines (text ∷ texts) h = grind (arith, and_parts, and_from, line-append, pieces_are_lines texts)

-- the lines of a record are lines as they are written
pub record_are_lines : (texts : List (List ℕ)) → list_all is_line texts ≡ true → list_all is_line (record_lines texts) ≡ true
unfolding ends_well
record_are_lines texts h = search (rules, laid_out_are_lines, pieces_are_lines)

-- Lemmas on the lines that are left of a file: their checksum, and that a line has no newlines.
use Rattle.sgb_vec.proofs.Common.{rules, ◌≡◌, ◌<◌, ◌≤◌, ◌++◌, ℕ, Bool, true, false, Bor, List, [], ◌∷◌, Option, Some, None, length, take, drop, slice_index, ◌&&◌, ◌+◌, ◌-◌, ◌≢◌, unwrap_or, cond, ◌==◌, refl, ap, append_assoc, length-append, slice_get, suc, arith, nat_lt, IsTrue, IfSome, option_map, list_all, position_or_len, position, before_first, after_first, drop_more, drop_all, take-append-drop, take_all, length-drop, list_all-append, fails_before_first, prefix_len-le-length, All-from_get_or, take-append_seam, and_parts, nat_tests}
use Rattle.std.proofs.lemmas.List.Splits.{slice_split_first, slice_split_none}
use Rattle.sgb_file.specs.FileLines.{lines_among, clean_lines, text_of_lines, without_end_spaces}
use Rattle.sgb_file.specs.inner.LinesLeft.{lines_of_text, IsWhole, lines_passed, text_left, next_begun, has_no_newline, HasPassed, AreLinesLeft, lines_left, lines_still}
use Rattle.sgb_file.specs.Checksum.{checksum_of_lines}
use Rattle.sgb_file.specs.inner.Layouts.{checksum_from, counted_bytes}
use Rattle.sgb_file.proofs.LineLemmas.{clean_are_one_line, is_one_line, is_within_line, ends_well, ends_well-last, list_all-drop, first_line, line_read, lines_again}
use Rattle.sgb_file.proofs.LaidLines.{checksum_from-append, counted-append}
use Rattle.sgb_file.proofs.WholeText.{checksum-whole}

-- the checksum after one more line that was passed
pub passes_line : (all : List (List ℕ)) (line : List ℕ) (left : List (List ℕ)) (before after : ℕ) → HasPassed all (line ∷ left) before
    → after ≡ checksum_from before (counted_bytes (line ∷ [])) → HasPassed all left after
passes_line all line left before after h e =
    grind (arith, append_assoc, checksum-whole, counted-append h.passed (line ∷ []), checksum_from-append 0 (counted_bytes h.passed) (counted_bytes (line ∷ [])))

-- a line is under way
pub passed_line : (all : List ℕ) (line : Option (List ℕ)) (begun rest : List ℕ) (sum : ℕ) (l : List ℕ)
    → AreLinesLeft all line begun rest sum → line ≡ Some l → HasPassed (clean_lines all) (begun ∷ clean_lines rest) sum
passed_line all line begun rest sum l h e = grind (arith)

-- the line that was begun is one, and so are those after it
begun_lines : (all begun rest : List ℕ) (sum : ℕ) → HasPassed (clean_lines all) (begun ∷ clean_lines rest) sum → (is_one_line begun ≡ true) × (list_all is_one_line (clean_lines rest) ≡ true)
begun_lines all begun rest sum h = grind (arith, and_parts, list_all-append is_one_line h.passed (begun ∷ clean_lines rest), clean_are_one_line all)

-- what is left of a line has no newlines
left_is_line : (all line begun rest : List ℕ) (sum : ℕ) → AreLinesLeft all (Some line) begun rest sum → is_one_line line ≡ true
left_is_line all line begun rest sum h = rw h.2 (list_all-drop is_within_line h.1 begun (begun_lines all begun rest sum h.0).0)

pub left_in_line : (all : List ℕ) (line : Option (Bor (List ℕ))) (begun rest : List ℕ) (sum : ℕ)
    → AreLinesLeft all (option_map (λ l. l.now) line) begun rest sum → IfSome line (λ l. IsTrue (has_no_newline l.now))
left_in_line all None begun rest sum h = tt
left_in_line all (Some line) begun rest sum h = left_is_line all line.now begun rest sum h

-- the place of the first that passes, or the length
pub position-unwrapped : {X : Type 0} (p : X → Bool) (xs : List X) → unwrap_or (position p xs) (length xs) ≡ position_or_len p xs
position-unwrapped p xs = grind (arith, nat_lt, unwrap_or, cond, prefix_len-le-length, nat_tests)

-- a text that is not empty has a first line, up to its first newline
pub first_line_of : (text : List ℕ) → position_or_len (λ b. b == 10) text < length text → clean_lines text ≡ without_end_spaces (before_first (λ b. b == 10) text) ∷ clean_lines (after_first (λ b. b == 10) text)
first_line_of text h = search (rules, slice_split_first, first_line)

-- no bytes have no lines
pub no_lines : clean_lines [] ≡ []
unfolding lines_among
no_lines = refl

-- a text without newlines that is not empty is one line
pub only_line_of : (text : List ℕ) → position_or_len (λ b. b == 10) text ≡ length text → length text ≢ 0 → clean_lines text ≡ without_end_spaces text ∷ clean_lines []
unfolding lines_among
only_line_of text e some = grind (arith, All-from_get_or, fails_before_first, slice_split_none, nat_tests, cond)

-- a space at the end is left out
clean-snoc : (line : List ℕ) → without_end_spaces (line ++ 32 ∷ []) ≡ without_end_spaces line
unfolding without_end_spaces
clean-snoc [] = refl
clean-snoc (b ∷ line) = ap (λ w. cond (b == 32 && length w == 0) [] (b ∷ w)) (clean-snoc line)

-- the last byte of a line, and those before it
last_apart : (line : List ℕ) (k : ℕ) → length line ≡ suc k → take k line ++ slice_index line k ∷ [] ≡ line
last_apart line k e = grind (arith, drop_more, drop_all, take-append-drop)

pub clean-last : (line : List ℕ) (k : ℕ) → length line ≡ suc k → slice_index line k ≡ 32 → without_end_spaces (take k line) ≡ without_end_spaces line
clean-last line k e space = grind (arith, clean-snoc (take k line), last_apart line k e)

-- a line that does not end with a space stays as it is
pub ends_well-at : (line : List ℕ) (k : ℕ) → length line ≡ suc k → (slice_index line k == 32) ≡ false → ends_well line ≡ true
ends_well-at line k e other = grind (arith, ends_well-last (take k line), last_apart line k e)

-- a text of no bytes has no line to begin
pub none_left : (all text : List ℕ) → text ≡ [] → lines_left all None text ≡ next_begun (lines_left all None text)
none_left all text e = rw (e, no_lines) refl

-- the checksum of the lines before the one under way
pub start_passed : (lines : List (List ℕ)) → HasPassed lines lines 0
unfolding checksum_from counted_bytes
start_passed lines = record { passed = []; made = refl; checksum = checksum-whole [] }

-- the first line of bytes with no newline, in the words of the code
pub whole_is_line : (bytes line : List ℕ) (end : ℕ) → length bytes ≢ 0 → end ≡ position_or_len (λ b. b == 10) bytes → end ≡ length bytes → line ≡ without_end_spaces bytes
    → clean_lines bytes ≡ line ∷ clean_lines (take (length bytes - end) (drop end bytes))
whole_is_line bytes line end some e whole l = grind (arith, only_line_of, take_all, drop_all)

-- the first line of bytes, in the words of the code
pub part_is_line : (bytes line : List ℕ) (end : ℕ) → end ≡ position_or_len (λ b. b == 10) bytes → end ≢ length bytes → line ≡ without_end_spaces (take end bytes)
    → clean_lines bytes ≡ line ∷ clean_lines (take (length bytes - (end + 1)) (drop (end + 1) bytes))
part_is_line bytes line end e part l = grind (arith, prefix_len-le-length, take_all, length-drop, first_line_of)

-- no bytes have no spaces at their end
pub clean_nothing : (line : List ℕ) → line ≡ [] → line ≡ without_end_spaces line
unfolding without_end_spaces
clean_nothing line e = rw e refl

-- where there are bytes there is a last one
pub some_bytes : (bytes : List ℕ) → (length bytes == 0) ≡ false → length bytes ≡ suc (length bytes - 1)
some_bytes bytes e = grind (arith, nat_tests, e)

-- the lines of the text that is left are those that are left
pub left_lines : (all : List ℕ) (line : Option (List ℕ)) (begun rest : List ℕ) (sum : ℕ) → AreLinesLeft all line begun rest sum
    → lines_of_text (text_left (lines_left all line rest)) ≡ lines_still (lines_left all line rest)
unfolding lines_among
left_lines all None begun rest sum h = refl
left_lines all (Some line) begun rest sum h =
    rw (line_read line (text_of_lines (clean_lines rest)) (left_is_line all line begun rest sum h), lines_again (clean_lines rest) (begun_lines all begun rest sum h.0).1) refl

-- what stands after these lines, and what stands before it
line_after : (before : List (List ℕ)) (line : List ℕ) (after : List (List ℕ)) → slice_get (before ++ line ∷ after) (length before) ≡ Some line
line_after [] line after = refl
line_after (first ∷ before) line after = line_after before line after

-- a list that loses nothing stays as it is
drop_nothing : (k : ℕ) (bytes : List ℕ) → length bytes ≤ length (drop k bytes) → drop k bytes ≡ bytes
drop_nothing k bytes h = grind (arith, length-drop)

-- where the line that was begun stands
begun_at : (all begun rest : List ℕ) (sum : ℕ) (h : HasPassed (clean_lines all) (begun ∷ clean_lines rest) sum)
    → length (clean_lines all) - suc (length (clean_lines rest)) ≡ length h.passed
begun_at all begun rest sum h = omega (arith, ap length h.made, length-append h.passed (begun ∷ clean_lines rest))

begun_there : (all begun rest : List ℕ) (sum : ℕ) (h : HasPassed (clean_lines all) (begun ∷ clean_lines rest) sum)
    → slice_get (clean_lines all) (length (clean_lines all) - suc (length (clean_lines rest))) ≡ Some begun
begun_there all begun rest sum h = grind (arith, begun_at all begun rest sum h, line_after h.passed begun (clean_lines rest))

-- the line under way is as long as the one that was begun: nothing of it was passed over
pub whole_under_way : (all : List ℕ) (line : Option (List ℕ)) (begun rest : List ℕ) (sum : ℕ) (l : List ℕ)
    → AreLinesLeft all line begun rest sum → line ≡ Some l → length begun ≤ length l → IsWhole (lines_left all line rest) l
whole_under_way all None begun rest sum l h e long = absurd cc
whole_under_way all (Some line) begun rest sum l h e long = grind (arith, drop_nothing, begun_there all begun rest sum h.0)

-- the checksum after a line of which nothing was passed over before
pub whole_passed : (all : List ℕ) (line : Option (List ℕ)) (begun rest : List ℕ) (sum : ℕ) (l : List ℕ) (after : ℕ)
    → AreLinesLeft all line begun rest sum → IsWhole (lines_left all line rest) l
    → after ≡ checksum_from (checksum_of_lines (lines_passed (lines_left all line rest))) (counted_bytes (l ∷ []))
    → HasPassed (clean_lines all) (clean_lines rest) after
whole_passed all None begun rest sum l after h whole counted = absurd cc
whole_passed all (Some line) begun rest sum l after h whole counted =
    grind (arith, begun_at all begun rest sum h.0, begun_there all begun rest sum h.0, take-append_seam h.0.passed (begun ∷ clean_lines rest), passes_line)

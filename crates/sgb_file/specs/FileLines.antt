-- The lines of a file [GB_IO, gb_newline].
use Rattle.std.specs.Prelude.{ℕ, ◌&&◌, List, [], ◌∷◌, ◌++◌, map, length, ◌==◌, if◌then◌else◌}
use Rattle.std.specs.List.{flat_map, slice_split}

-- the lines among the parts between newlines: an empty last part is none
unfoldable pub lines_among : List (List ℕ) → List (List ℕ)
lines_among [] = []
lines_among (last ∷ []) = if length last == 0 then [] else last ∷ []
lines_among (part ∷ next ∷ parts) = part ∷ lines_among (next ∷ parts)

-- a line without the spaces (32) at its end
unfoldable pub without_end_spaces : List ℕ → List ℕ
without_end_spaces [] = []
without_end_spaces (b ∷ line) = if b == 32 && length (without_end_spaces line) == 0 then [] else b ∷ without_end_spaces line

-- the lines of a text, without their newlines (10) and the spaces at their ends
abbrev pub clean_lines : List ℕ → List (List ℕ)
clean_lines text = map without_end_spaces (lines_among (slice_split (λ b. b == 10) text))

-- the text of lines, each with its newline
abbrev pub text_of_lines : List (List ℕ) → List ℕ
text_of_lines lines = flat_map (λ line. line ++ 10 ∷ []) lines

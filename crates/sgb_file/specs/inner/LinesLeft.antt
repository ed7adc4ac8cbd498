-- What is left of the lines of a file while they are read [GB_IO].
use Rattle.std.specs.Prelude.{◌≡◌, ℕ, suc, ◌-◌, Bool, not, List, [], ◌∷◌, ◌++◌, length, take, drop, Option, Some, None, option_map, ◌==◌, slice_get}
use Rattle.std.specs.List.{list_all, slice_split}
use Rattle.std.specs.Option.{option_map_or}
use Rattle.sgb_file.specs.FileLines.{clean_lines, lines_among, text_of_lines}
use Rattle.sgb_file.specs.Checksum.{checksum_of_lines}

-- the lines of a text, without their newlines (10)
abbrev pub lines_of_text : List ℕ → List (List ℕ)
lines_of_text text = lines_among (slice_split (λ b. b == 10) text)

-- all lines after a file's first one; what is left of the line under way, or none at the end; the lines after it
pub record LinesLeft : Type 0 where
  pub all : List (List ℕ)
  pub line : Option (List ℕ)
  pub others : List (List ℕ)

-- the text that is left, each line with its newline
abbrev pub text_left : LinesLeft → List ℕ
text_left s = option_map_or (λ line. line ++ 10 ∷ text_of_lines s.others) s.line []

-- what is left of the line under way, and the lines after it
abbrev pub lines_still : LinesLeft → List (List ℕ)
lines_still s = option_map_or (λ line. line ∷ s.others) s.line []

-- the line under way without so many bytes at its beginning
abbrev pub skipped : ℕ → LinesLeft → LinesLeft
skipped count s = record s { line = option_map (λ line. drop count line) s.line }

-- the next line is under way, or none
abbrev pub next_begun : LinesLeft → LinesLeft
next_begun s = record s { line = slice_get s.others 0; others = drop 1 s.others }

-- this line is under way, and nothing of it was passed over yet
abbrev pub IsWhole : LinesLeft → List ℕ → Type 0
IsWhole s line = (s.line ≡ Some line) × (slice_get s.all (length s.all - suc (length s.others)) ≡ Some line)

-- no line of these is begun yet
abbrev pub none_begun : List (List ℕ) → LinesLeft
none_begun lines = record { all = lines; line = None; others = lines }

-- a line has no newline (10) in it
abbrev pub has_no_newline : List ℕ → Bool
has_no_newline line = list_all (λ b. not (b == 10)) line

-- the lines before the one under way
abbrev pub lines_passed : LinesLeft → List (List ℕ)
lines_passed s = take (length s.all - suc (length s.others)) s.all

-- these lines are left of all, with the checksum of those that were passed
pub record HasPassed (all left : List (List ℕ)) (sum : ℕ) : Type 0 where
  pub passed : List (List ℕ)
  pub made : all ≡ passed ++ left
  pub checksum : sum ≡ checksum_of_lines passed

-- the lines that are left of a file's bytes: what is left of the line under way, and the bytes after it
abbrev pub lines_left : List ℕ → Option (List ℕ) → List ℕ → LinesLeft
lines_left all line rest = record { all = clean_lines all; line = line; others = clean_lines rest }

-- the line that was begun is in its place, with the checksum of those before it, and what is left of it is an end of it
abbrev pub AreLinesLeft : List ℕ → Option (List ℕ) → List ℕ → List ℕ → ℕ → Type 0
AreLinesLeft all None begun rest sum = clean_lines rest ≡ []
AreLinesLeft all (Some line) begun rest sum =
    HasPassed (clean_lines all) (begun ∷ clean_lines rest) sum × (count : ℕ) × (line ≡ drop count begun)

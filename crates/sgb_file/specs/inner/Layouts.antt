-- Lines that are laid out one after another, with the checksum of the lines so far [GB_SAVE, save_graph].
use Rattle.std.specs.Prelude.{◌≡◌, ℕ, ◌+◌, ◌*◌, ◌%◌, ◌^◌, ◌≤◌, Bool, true, false, not, List, [], ◌∷◌, ◌++◌, fold, filter, codes, Option, Result, Ok, Err, map, length, drop, decimal, ◌==◌, if◌then◌else◌}
use Rattle.std.specs.List.{flat_map, range_with_len}
use Rattle.std.proofs.Common.{ap}
use Rattle.std.proofs.lemmas.List.{drop_all}
use Rattle.std.specs.Io.KnownBytes.{Appends}
use Rattle.sgb_file.specs.Devices.{AppendsPrefix}
use Rattle.sgb_file.specs.FileLines.{text_of_lines}
use Rattle.sgb_file.specs.Checksum.{value_of_byte, checksum_prime, has_star}
use Rattle.sgb_file.specs.Saving.{laid_out, pieces_of, record_lines}
use Rattle.sgb_file.specs.inner.SavedLines.{broken_lines, last_part, line_begun, lines_ended}

-- the place of a byte in the order of the checksum
unfoldable pub place_of : ℕ → ℕ
place_of byte = value_of_byte byte

-- the places of all bytes
unfoldable pub places : List ℕ
places = map place_of (range_with_len 0 256)

-- the checksum after one byte more
unfoldable pub checksum_after : ℕ → ℕ → ℕ
checksum_after sum byte = (2 * sum + place_of byte) % checksum_prime

-- the checksum made byte by byte, from a checksum on
unfoldable pub checksum_from : ℕ → List ℕ → ℕ
checksum_from sum bytes = fold checksum_after sum bytes

-- a value whose remainder is the checksum, after a byte more: in 64 bits, with no remainder taken
abbrev pub value_after : ℕ → ℕ → ℕ
value_after value byte = (2 * value + place_of byte) % 2 ^ 64

-- such a value after bytes
unfoldable pub value_from : ℕ → List ℕ → ℕ
value_from value bytes = fold value_after value bytes

-- the bytes of lines that count
unfoldable pub counted_bytes : List (List ℕ) → List ℕ
counted_bytes lines = text_of_lines (filter (λ line. not (has_star line)) lines)

-- a layout under way: the checksum of the lines so far, and the beginning of the next line
pub record LayoutState : Type 0 where
  pub checksum : ℕ
  pub line : List ℕ

-- where the writing of a layout stands: the bytes of its sink, whether that has failed, and the layout
pub record Stage : Type 0 where
  pub written : Option (List ℕ)
  pub failed : Bool
  pub layout : LayoutState

-- the stage of a sink and a layout, by what sinks tell and whether they have failed
abbrev pub stage : {S : Type 0} → (S → Option (List ℕ)) → (S → Bool) → S → LayoutState → Stage
stage written has_failed sink layout = record { written = written sink; failed = has_failed sink; layout = layout }

-- these lines were written
pub record HasLaid (lines : List (List ℕ)) (old new : Stage) : Type 0 where
  pub written : Appends old.written new.written (text_of_lines lines)
  pub sound : new.failed ≡ old.failed
  pub checksum : new.layout.checksum ≡ checksum_from old.layout.checksum (counted_bytes lines)

-- a prefix of these lines was written, and the sink has failed
pub record IsStopped (lines : List (List ℕ)) (old new : Stage) : Type 0 where
  pub written : AppendsPrefix old.written new.written (text_of_lines lines)
  pub failed : new.failed ≡ true

-- these lines were written and this line was begun, or the sink has failed
abbrev pub IsLaid : {T E : Type 0} → List (List ℕ) → List ℕ → Stage → Stage → Result T E → Type 0
IsLaid lines line old new (Ok x) = HasLaid lines old new × (new.layout.line ≡ line)
IsLaid lines line old new (Err e) = IsStopped lines old new

-- these bytes were put on lines, as many as they need, after the beginning of a line
abbrev pub IsFilled : {T E : Type 0} → List ℕ → Stage → Stage → Result T E → Type 0
IsFilled bytes old new result =
    IsLaid (broken_lines (old.layout.line ++ bytes)) (last_part (old.layout.line ++ bytes)) old new result

-- the line that ends before a piece which does not fit on it
abbrev pub lines_before : List ℕ → List (List ℕ)
lines_before line = if length line == 0 then [] else line ∷ []

-- this piece was laid out after the beginning of a line
abbrev pub IsPlaced : {T E : Type 0} → List ℕ → Stage → Stage → Result T E → Type 0
IsPlaced piece old new result =
    IsLaid (lines_ended old.layout.line piece) (line_begun old.layout.line piece) old new result

-- the pieces of these texts were laid out after the beginning of a line, and the last line ended
abbrev pub AreLaidOut : {T E : Type 0} → List (List ℕ) → Stage → Stage → Result T E → Type 0
AreLaidOut texts old new result = IsLaid (laid_out old.layout.line (pieces_of texts)) [] old new result

-- the lines of records with these texts
abbrev pub lines_of : {X : Type 0} → (X → List (List ℕ)) → List X → List (List ℕ)
lines_of texts xs = flat_map (λ x. record_lines (texts x)) xs

-- there are none after the last record
pub no_lines : {X : Type 0} (texts : X → List (List ℕ)) (xs : List X) (k : ℕ) → length xs ≤ k → lines_of texts (drop k xs) ≡ []
no_lines texts xs k past = ap (λ ys. lines_of texts ys) (drop_all k xs past)

-- of all lines, these are left, and those before them were written
abbrev pub LinesSoFar : List (List ℕ) → List (List ℕ) → Stage → Stage → Type 0
LinesSoFar all left old new = (done : List (List ℕ)) × (all ≡ done ++ left) × HasLaid done old new

-- the same, and no line was begun; or the writing stopped within all
abbrev pub AreLaidUpTo : {T E : Type 0} → List (List ℕ) → (T → List (List ℕ)) → Stage → Stage → Result T E → Type 0
AreLaidUpTo all left old new (Ok x) = LinesSoFar all (left x) old new × (new.layout.line ≡ [])
AreLaidUpTo all left old new (Err e) = IsStopped all old new

-- the comma after a field where more fields follow
abbrev pub comma_of : Bool → List ℕ
comma_of true = codes ","
comma_of false = []

-- the piece of a field's text
abbrev pub piece_of : Bool → List ℕ → List ℕ
piece_of more text = text ++ comma_of more

-- there is any text
abbrev pub has_any : List (List ℕ) → Bool
has_any [] = false
has_any (text ∷ texts) = true

-- the first of these texts, if there is any, was laid out as a piece
abbrev pub IsNextPlaced : {T E : Type 0} → Bool → List (List ℕ) → Stage → Stage → Result T E → Type 0
IsNextPlaced more [] old new result = IsLaid [] old.layout.line old new result
IsNextPlaced more (text ∷ texts) old new result = IsPlaced (piece_of more text) old new result

-- the first line and its newline, and the last
abbrev pub head_text : List ℕ → ℕ → ℕ → List ℕ
head_text letters n records =
    codes "* GraphBase graph (util_types " ++ letters ++ codes "," ++ decimal n ++ codes "V," ++ decimal records ++ codes "A)\n"

abbrev pub checksum_text : ℕ → List ℕ
checksum_text checksum = codes "* Checksum " ++ decimal checksum ++ codes "\n"

-- Short lines that are put together one after another, with the checksum after them.
use Rattle.std.specs.Prelude.{ℕ, ◌<◌, false, List, [], ◌∷◌, ◌++◌, codes, decimal, Option, Some, IfSome}
use Rattle.std.specs.List.{join_with_byte}
use Rattle.sgb_file.specs.Saving.{quoted, record_number_text}
use Rattle.sgb_file.specs.inner.Layouts.{Stage, value_from}

-- the bytes of lines, and the checksum after them, or a value of which it is the remainder
pub record ShortText : Type 0 where
  pub text : List ℕ
  pub value : ℕ

-- these bytes after the others
unfoldable pub put_after : ShortText → List ℕ → ShortText
put_after short bytes = record { text = short.text ++ bytes; value = value_from short.value bytes }

-- the stage of a sink that was given these lines
abbrev pub short_stage : ShortText → Stage
short_stage short = record { written = Some short.text; failed = false; layout = record { checksum = short.value; line = [] } }

-- the tip, the next record's number and the length of an arc record are short
abbrev pub AreShort : ℕ → Option ℕ → ℕ → Type 0
AreShort tip next len = (tip < 100_000_000) × IfSome next (λ k. k < 100_000_000) × (len < 10_000)

-- the texts of its fields
abbrev pub short_texts : ℕ → Option ℕ → ℕ → List (List ℕ)
short_texts tip next len = (codes "V" ++ decimal tip) ∷ record_number_text next ∷ decimal len ∷ []

-- the first record's number and the integers of a vertex are short
abbrev pub AreShortFields : Option ℕ → ℕ → ℕ → ℕ → Type 0
AreShortFields first x y z = IfSome first (λ k. k < 100_000_000) × (x < 10_000) × (y < 10_000) × (z < 10_000)

-- the texts of these fields
abbrev pub field_texts_of : Option ℕ → ℕ → ℕ → ℕ → List (List ℕ)
field_texts_of first x y z = record_number_text first ∷ decimal x ∷ decimal y ∷ decimal z ∷ []

-- texts on one line, with commas (44) between them
abbrev pub line_of : List (List ℕ) → List ℕ
line_of texts = join_with_byte 44 texts

-- the name of a vertex on its line
abbrev pub name_piece : List ℕ → List ℕ
name_piece name = quoted name ++ codes ","

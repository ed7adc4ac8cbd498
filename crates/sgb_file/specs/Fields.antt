-- The fields of a record: which texts stand for their values [GB_SAVE, fill_field].
use Rattle.std.specs.Prelude.{◌≡◌, ◌≢◌, ℕ, ◌<◌, ◌≤◌, ℤ, pos, neg_ℤ, ◌&&◌, All, FitsSigned, IsTrue, List, [], ◌∷◌, length, codes, Option, Some, None, ◌==◌, if◌then◌else◌}
use Rattle.std.specs.Int.{w64}
use Rattle.std.specs.List.{list_all}
use Rattle.sgb_text.specs.Languages.{After, As, Fixed, Or}
use Rattle.sgb_text.specs.Numbers.{IsNumber}
use Rattle.sgb_vec.specs.Names.{is_text_byte}
use Rattle.sgb_graph.specs.declared.fields.Ref.{Ref}
use Rattle.sgb_graph.specs.declared.fields.Ref.TheVariants.{Null, One, At}
use Rattle.sgb_file.specs.Saving.{quoted}

-- a number of the file's own (a vertex, an arc record, a count, a checksum) has at most this many digits
abbrev pub most_number_digits : ℕ
most_number_digits = 18

-- the text of a number of the file's own
abbrev pub IsNumberText : List ℕ → ℕ → Type 0
IsNumberText = IsNumber 10 most_number_digits

-- the text of a number of the file's own that is below a limit
abbrev pub IsNumberBelow : ℕ → List ℕ → ℕ → Type 0
IsNumberBelow limit text k = IsNumberText text k × (k < limit)

-- the text of an integer of 64 bits: at most 20 digits, or a `-` and such digits
abbrev pub IsIntegerText : List ℕ → ℤ → Type 0
IsIntegerText text i = Or (As pos (IsNumber 10 20)) (After (codes "-") (As (λ n. neg_ℤ (pos n)) (IsNumber 10 20))) text i × FitsSigned w64 i

-- the text of one of n vertices: `V` and its number; or `0`, or `1`
abbrev pub IsRefText : ℕ → List ℕ → Ref → Type 0
IsRefText n = Or (Fixed Null (codes "0")) (Or (Fixed One (codes "1")) (After (codes "V") (As At (IsNumberBelow n))))

-- the text of one of m arc records: `A` and its number; or `0`
abbrev pub IsRecordNumberText : ℕ → List ℕ → Option ℕ → Type 0
IsRecordNumberText m = Or (Fixed None (codes "0")) (After (codes "A") (As Some (IsNumberBelow m)))

-- bytes between quotes, where a `\` (92) and a newline (10) after it count as nothing
unfoldable pub unbroken : List ℕ → List ℕ
unbroken [] = []
unbroken (b ∷ []) = b ∷ []
unbroken (b ∷ c ∷ bytes) = if b == 92 && c == 10 then unbroken bytes else b ∷ unbroken (c ∷ bytes)

-- the text of a string of at most so many bytes: bytes that say it, between quotes, and no quote (34) among them
abbrev pub IsStringText : ℕ → List ℕ → List ℕ → Type 0
IsStringText most text s = (inside : List ℕ) × (text ≡ quoted inside) × All (λ b. b ≢ 34) inside
    × (unbroken inside ≡ s) × (length s ≤ most) × IsTrue (list_all is_text_byte s)

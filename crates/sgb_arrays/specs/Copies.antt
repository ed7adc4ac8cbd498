-- Arrays that others are copied to.
use Rattle.std.specs.Prelude.{◌≡◌, ℕ, ℤ, List, length}
use Rattle.sgb_arrays.specs.declared.names.Names.{Names}
use Rattle.sgb_arrays.specs.declared.rows.Rows.{Rows}

-- arrays as long as those of these lists
abbrev pub HaveLengthsOfRows : Rows → List ℕ → List ℕ → List ℤ → Type 0
HaveLengthsOfRows rows starts tips lengths =
    (length starts ≡ length rows.starts.items) × (length tips ≡ length rows.tips.items) × (length lengths ≡ length rows.lengths.items)

-- arrays as long as those of these lists, without the lengths of the arcs
abbrev pub HaveLengthsOfTips : Rows → List ℕ → List ℕ → Type 0
HaveLengthsOfTips rows starts tips = (length starts ≡ length rows.starts.items) × (length tips ≡ length rows.tips.items)

-- arrays as long as those of these names
abbrev pub HaveLengthsOfNames : Names → List ℕ → List ℕ → Type 0
HaveLengthsOfNames names starts bytes = (length starts ≡ length names.starts.items) × (length bytes ≡ length names.bytes.items)

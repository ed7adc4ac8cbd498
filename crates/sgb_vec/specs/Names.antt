-- The texts of a graph's vertices.
use Rattle.std.specs.Prelude.{ℕ, ◌≤◌, ◌==◌, ◌&&◌, Bool, not, nat_le, List, map, length, All, IsTrue, decimal}
use Rattle.std.specs.List.{join_with_byte}
use Rattle.sgb_vec.specs.Limits.{most_bytes}

-- the name of a vector [GB_BASIC, board]: its entries in decimal, with no leading zeros, and dots (46) between them
unfoldable pub name_of_vector : List ℕ → List ℕ
name_of_vector entries = join_with_byte 46 (map decimal entries)

-- a byte that may stand in a string: printable ASCII but for `"` (34) and `\` (92)
abbrev pub is_text_byte : ℕ → Bool
is_text_byte byte = nat_le 32 byte && nat_le byte 126 && not (byte == 34) && not (byte == 92)

-- a byte that `is_text_byte` lets stand in a string
abbrev pub IsTextByte : ℕ → Type 0
IsTextByte byte = IsTrue (is_text_byte byte)

-- a string that a `.gb` file can hold [GB_SAVE]
pub record IsText (bytes : List ℕ) : Type 0 where
  pub short : length bytes ≤ most_bytes
  pub printable : All IsTextByte bytes

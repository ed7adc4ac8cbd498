-- The checksum of a file [GB_IO, imap_chr and new_checksum; GB_SAVE].
use Rattle.std.specs.Prelude.{ℕ, ◌≡◌, ◌+◌, ◌-◌, ◌*◌, ◌%◌, ◌^◌, ◌<◌, Bool, not, List, [], ◌∷◌, length, filter, fold, codes, ◌==◌, ◌||◌, nat_le, ◌&&◌, IsTrue, slice_index}
use Rattle.std.specs.List.{position_or_len}
use Rattle.sgb_file.specs.FileLines.{text_of_lines}

-- the 96 characters of a file, in the order of their values
abbrev pub characters : List ℕ
characters = codes "0123456789ABCDEFGHIJKLMNOPQRSTUVWXYZabcdefghijklmnopqrstuvwxyz_^~&@,;.:?!%#$+-*/|\\<=>()[]{}`'\" \n"

-- the value of a byte: its place among the characters, from 0
abbrev pub value_of_byte : ℕ → ℕ
value_of_byte byte = position_or_len (λ c. c == byte) characters

-- a byte that a counted line of a file may have: printable ASCII, or a newline
abbrev pub is_character : ℕ → Bool
is_character byte = (nat_le 32 byte && nat_le byte 126) || byte == 10

-- each character has its own place below 96, and each place its own character
pub record IsOrder : Type 0 where
  pub place : (byte : ℕ) → IsTrue (is_character byte) → value_of_byte byte < 96
  pub character : (byte : ℕ) → IsTrue (is_character byte) → slice_index characters (value_of_byte byte) ≡ byte
  pub allowed : (k : ℕ) → k < 96 → IsTrue (is_character (slice_index characters k))
  pub back : (k : ℕ) → k < 96 → value_of_byte (slice_index characters k) ≡ k

-- the checksum is taken modulo this prime, 1073741741
abbrev pub checksum_prime : ℕ
checksum_prime = 2 ^ 30 - 83

-- the sum of the bytes' values, the last one's as it is and each one before twice as heavy
unfoldable pub weighted_sum : List ℕ → ℕ
weighted_sum [] = 0
weighted_sum (byte ∷ bytes) = value_of_byte byte * 2 ^ length bytes + weighted_sum bytes

-- the checksum of bytes
abbrev pub checksum : List ℕ → ℕ
checksum bytes = weighted_sum bytes % checksum_prime

-- the checksum as it can be made byte by byte
abbrev pub running_checksum : List ℕ → ℕ
running_checksum bytes = fold (λ a byte. (2 * a + value_of_byte byte) % checksum_prime) 0 bytes

-- the line begins with `*`
abbrev pub has_star : List ℕ → Bool
has_star line = slice_index line 0 == 42

-- the checksum of a file's lines: over those that do not begin with `*`, each with its newline
abbrev pub checksum_of_lines : List (List ℕ) → ℕ
checksum_of_lines lines = checksum (text_of_lines (filter (λ line. not (has_star line)) lines))

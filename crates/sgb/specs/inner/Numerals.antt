-- The texts of the first numbers.
use Rattle.std.specs.Prelude.{◌≡◌, ◌≤◌, ◌<◌, ℕ, List, [], decimal, get_or, length, take}

-- a word of four bytes that begins with the text of this number, and how long that is
abbrev pub IsNumeral : ℕ → List ℕ × ℕ → Type 0
IsNumeral number (word, len) = (length word ≡ 4) × (len ≤ 4) × (take len word ≡ decimal number)

-- so many are kept
abbrev pub numerals_count : ℕ
numerals_count = 1_000

-- the first of them are those of their places
abbrev pub AreNumerals : ℕ → List (List ℕ × ℕ) → Type 0
AreNumerals count kept = (length kept ≡ numerals_count) × ((k : ℕ) → k < count → IsNumeral k (get_or kept k ([], 0)))

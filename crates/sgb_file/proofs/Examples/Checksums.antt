-- Checksums of texts.
use Rattle.std.specs.Prelude.{◌≡◌, true, false, [], ◌∷◌, length, map, codes, refl}
use Rattle.sgb_file.specs.Checksum.{characters, value_of_byte, is_character, checksum_prime, weighted_sum, checksum, running_checksum, checksum_of_lines}

-- the characters, with the newline, and the bytes next to them
pub all_characters : length characters ≡ 96
all_characters = refl

pub next_to_characters : map is_character (9 ∷ 10 ∷ 11 ∷ 31 ∷ 32 ∷ 126 ∷ 127 ∷ []) ≡ false ∷ true ∷ false ∷ false ∷ true ∷ true ∷ false ∷ []
next_to_characters = refl

-- the prime that checksums are below
pub prime : checksum_prime ≡ 1073741741
prime = refl

-- the places of the bytes of one record
pub places : map value_of_byte (codes "\"a\",0,0\n") ≡ 93 ∷ 36 ∷ 93 ∷ 67 ∷ 0 ∷ 67 ∷ 0 ∷ 95 ∷ []
places = refl

-- where the groups of the order begin and end, the bar and the backslash
pub groups : map value_of_byte (codes "09AZaz_@,$+>(}`\" |\\") ≡ 0 ∷ 9 ∷ 10 ∷ 35 ∷ 36 ∷ 61 ∷ 62 ∷ 66 ∷ 67 ∷ 75 ∷ 76 ∷ 84 ∷ 85 ∷ 90 ∷ 91 ∷ 93 ∷ 94 ∷ 80 ∷ 81 ∷ []
groups = refl

-- the checksum of that record and of nothing, as a sum and byte by byte
pub of_record : map checksum (codes "\"a\",0,0\n" ∷ [] ∷ []) ≡ 18619 ∷ 0 ∷ []
unfolding weighted_sum
of_record = refl

pub of_record_running : running_checksum (codes "\"a\",0,0\n") ≡ 18619
of_record_running = refl

-- lines that begin with `*` do not count, even where they belong to a broken string
pub of_lines : checksum_of_lines (codes "* Vertices" ∷ codes "\"a\",0,0" ∷ codes "*b\"" ∷ []) ≡ 18619
unfolding weighted_sum
of_lines = refl

-- The vector that a name stands for [GB_BASIC, board].
use Rattle.std.specs.Prelude.{◌≡◌, ◌≤◌, ℕ, ◌+◌, ◌==◌, nat_le, Bool, ◌&&◌, List, [], ◌∷◌, length, map, Option, Some, None, All, nat_eq, if◌then◌else◌}
use Rattle.std.specs.List.{list_all, slice_split}
use Rattle.std.specs.Cmp.Lexicographic.{pointwise}
use Rattle.std.specs.Str.Parse.{digits_value}
use Rattle.sgb_vec.specs.Limits.{most_dimensions, most_entry}
use Rattle.sgb_vec.specs.Names.{name_of_vector}

-- a vector that a name may stand for: at most 251 entries, each below 2^32
pub record IsVector (x : List ℕ) : Type 0 where
  pub short : length x ≤ most_dimensions + 1
  pub small : All (λ entry. entry ≤ most_entry) x

-- whether a name may stand for this vector
abbrev pub is_vector : List ℕ → Bool
is_vector x = nat_le (length x) (most_dimensions + 1) && list_all (λ entry. nat_le entry most_entry) x

-- what the parts of a text between its dots (46) are as numbers; the empty text has no parts
abbrev pub numbers_between_dots : List ℕ → List ℕ
numbers_between_dots [] = []
numbers_between_dots (b ∷ text) = map (λ part. digits_value 10 part) (slice_split (λ c. c == 46) (b ∷ text))

-- the vector whose name is the text, if there is one
unfoldable pub vector_of : List ℕ → Option (List ℕ)
vector_of text = let x = numbers_between_dots text in
    if is_vector x && pointwise nat_eq (name_of_vector x) text then Some x else None

-- a text stands for x exactly where it is the name of x, a vector that a name may stand for
pub record NamesReadBack : Type 0 where
  pub named : (text x : List ℕ) → vector_of text ≡ Some x → IsVector x × (name_of_vector x ≡ text)
  pub found : (x : List ℕ) → IsVector x → vector_of (name_of_vector x) ≡ Some x

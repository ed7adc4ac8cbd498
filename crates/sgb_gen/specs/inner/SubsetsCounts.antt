-- How many moves subsets have, vector by vector, with no move made.
use Rattle.std.specs.Prelude.{◌≡◌, ◌<◌, ℕ, ◌+◌, false, List, [], ◌∷◌, length, filter}
use Rattle.sgb_gen.specs.Subsets.{common_size, is_wanted_size}
use Rattle.sgb_gen.specs.inner.Descents.{down_from}

-- how many of these vectors have a wanted size in common with x, where `common` elements are in common before
abbrev pub wanted_among : ℕ → ℕ → List ℕ → List (List ℕ) → ℕ
wanted_among size_bits common x ends = length (filter (λ v. is_wanted_size size_bits (common_size x v + common)) ends)

-- how many have, of those from x on down to the first one, for each x of these vectors, added
abbrev pub moves_among : ℕ → List ℕ → List (List ℕ) → ℕ
moves_among size_bits bounds [] = 0
moves_among size_bits bounds (x ∷ vectors) =
    wanted_among size_bits 0 x (down_from bounds x) + moves_among size_bits bounds vectors

-- no size above this one is wanted
abbrev pub HasNoneAbove : ℕ → ℕ → Type 0
HasNoneAbove size_bits most = (k : ℕ) → most < k → is_wanted_size size_bits k ≡ false

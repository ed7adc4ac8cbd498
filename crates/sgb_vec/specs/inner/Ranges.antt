-- The vectors of a list from one of them to another: what an iterator from both ends has left.
use Rattle.std.specs.Prelude.{ℕ, ◌+◌, ◌<◌, ◌≤◌, Bool, true, false, List, [], length, take, drop, nat_eq}
use Rattle.std.specs.List.{position_or_len}
use Rattle.std.specs.Cmp.Lexicographic.{pointwise}

-- the place of v among the vectors; where it is none of them, how many they are
abbrev pub place_among : List (List ℕ) → List ℕ → ℕ
place_among vectors v = position_or_len (λ w. pointwise nat_eq v w) vectors

-- the vectors from v to w, both with them
abbrev pub from_to : List (List ℕ) → List ℕ → List ℕ → List (List ℕ)
from_to vectors v w = drop (place_among vectors v) (take (place_among vectors w + 1) vectors)

-- the same, if there are more
abbrev pub from_to_if : Bool → List (List ℕ) → List ℕ → List ℕ → List (List ℕ)
from_to_if more vectors v w = elim more [ true ↦ from_to vectors v w | false ↦ [] ]

-- both are among the vectors, and w does not stand before v
abbrev pub AreEnds : List (List ℕ) → List ℕ → List ℕ → Type 0
AreEnds vectors v w = (place_among vectors v ≤ place_among vectors w) × (place_among vectors w < length vectors)

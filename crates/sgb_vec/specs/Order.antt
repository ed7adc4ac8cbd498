-- Places in a list of vectors.
use Rattle.std.specs.Prelude.{◌≡◌, ℕ, ◌+◌, ◌-◌, ◌<◌, Some, List, length, slice_get}

-- v is the first of the vectors
abbrev pub IsFirst : List (List ℕ) → List ℕ → Type 0
IsFirst vectors v = slice_get vectors 0 ≡ Some v

-- w comes right after v, wherever v stands
abbrev pub IsNext : List (List ℕ) → List ℕ → List ℕ → Type 0
IsNext vectors v w = (i : ℕ) → slice_get vectors i ≡ Some v → slice_get vectors (i + 1) ≡ Some w

-- v is the last, wherever it stands
abbrev pub IsLast : List (List ℕ) → List ℕ → Type 0
IsLast vectors v = (i : ℕ) → slice_get vectors i ≡ Some v → length vectors ≡ i + 1

-- v is the vector at the end of the list
abbrev pub IsFinal : List (List ℕ) → List ℕ → Type 0
IsFinal vectors v = slice_get vectors (length vectors - 1) ≡ Some v

-- w comes right before v, wherever v stands
abbrev pub IsPrevious : List (List ℕ) → List ℕ → List ℕ → Type 0
IsPrevious vectors v w = (i : ℕ) → slice_get vectors i ≡ Some v → (0 < i) × (slice_get vectors (i - 1) ≡ Some w)

-- none comes before v, wherever it stands
abbrev pub HasNoneBefore : List (List ℕ) → List ℕ → Type 0
HasNoneBefore vectors v = (i : ℕ) → slice_get vectors i ≡ Some v → i ≡ 0

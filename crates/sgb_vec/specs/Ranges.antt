-- The vectors of a list from one of them to another.
use Rattle.std.specs.Prelude.{◌≡◌, ℕ, List, ◌∷◌, ◌++◌}

-- after has all vectors that come after v in the list
abbrev pub ComeAfter : List (List ℕ) → List ℕ → List (List ℕ) → Type 0
ComeAfter vectors v after = (before : List (List ℕ)) × (vectors ≡ before ++ v ∷ after)

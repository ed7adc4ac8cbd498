-- The marks of a search: a vertex that has none is given one, and stands on the next level.
use Rattle.std.specs.Prelude.{ℕ, Bool, true, false, List, [], ◌∷◌, ◌++◌, Option, Some, None, is_none}
use Rattle.std.specs.List.{slice_index_or, slice_set}

-- the mark of each vertex that was found, and the vertices of the next level
pub record Marks : Type 0 where
  pub found : List (Option ℕ)
  pub next : List ℕ

abbrev pub marks : List (Option ℕ) → List ℕ → Marks
marks found next = record { found = found; next = next }

-- the marks after vertex v is given the mark d, where it has none
abbrev pub marked_if : Bool → ℕ → ℕ → Marks → Marks
marked_if true d v m = record { found = slice_set m.found v (Some d); next = m.next ++ v ∷ [] }
marked_if false d v m = m

abbrev pub marked : ℕ → ℕ → Marks → Marks
marked d v m = marked_if (is_none (slice_index_or m.found v None)) d v m

-- the marks after each of these vertices is given the mark d, where it has none
abbrev pub all_marked : ℕ → List ℕ → Marks → Marks
all_marked d [] m = m
all_marked d (v ∷ vs) m = all_marked d vs (marked d v m)

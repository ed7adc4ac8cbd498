-- The vertex of a name.
use Rattle.std.specs.Prelude.{ℕ, List, Option, nat_eq}
use Rattle.std.specs.List.{position}
use Rattle.std.specs.Cmp.Lexicographic.{pointwise}

-- the first vertex of this name
abbrev pub vertex_named : List ℕ → List (List ℕ) → Option ℕ
vertex_named name names = position (λ other. pointwise nat_eq other name) names

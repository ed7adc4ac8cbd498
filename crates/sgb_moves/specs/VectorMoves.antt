-- A move between two vectors, and whether two vectors are one [GB_BASIC].
use Rattle.std.specs.Prelude.{ℕ, Bool, List, nat_eq}
use Rattle.std.specs.Cmp.Lexicographic.{pointwise}

-- an event between two vectors
pub record Move : Type 0 where
  pub from : List ℕ
  pub to : List ℕ
  pub len : ℕ

-- v and w have the same entries
abbrev pub same_vector : List ℕ → List ℕ → Bool
same_vector v w = pointwise nat_eq v w

-- What the parameters of accepted subsets keep.
use Rattle.std.specs.Prelude.{◌≤◌, ℤ, nat_abs, List, All}
use Rattle.sgb_vec.specs.Limits.{most_vertices}

-- parameters of at most 1,000,000,000, and at least its negative
abbrev pub AreSmall : List ℤ → Type 0
AreSmall params = All (λ p. nat_abs p ≤ most_vertices) params

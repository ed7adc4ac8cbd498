-- The lexicographic order of vectors, and which vectors the families have.
use Rattle.std.specs.Prelude.{◌≡◌, ◌<◌, ◌≤◌, ◌↔◌, ℕ, List, AllPairs, Contains, sum}
use Rattle.std.specs.List.{AllZip}
use Rattle.std.specs.Ordering.{nat_cmp}
use Rattle.std.specs.Cmp.Lexicographic.{slice_cmp}
use Rattle.std.specs.declared.cmp.Ordering.TheVariants.{Less}
use Rattle.sgb_vec.specs.Boxes.{box}
use Rattle.sgb_vec.specs.Sums.{bounded_sums}

-- v stands before w in lexicographic order: at the first place where they differ v has the smaller entry
abbrev pub IsBefore : List ℕ → List ℕ → Type 0
IsBefore v w = slice_cmp nat_cmp v w ≡ Less

-- each vector stands before all later ones in lexicographic order
abbrev pub IsRising : List (List ℕ) → Type 0
IsRising vectors = AllPairs IsBefore vectors

-- as many entries as sizes, each below its size
abbrev pub IsBelow : List ℕ → List ℕ → Type 0
IsBelow v sizes = AllZip (λ x s. x < s) v sizes

-- as many entries as bounds, each at most its bound
abbrev pub IsWithin : List ℕ → List ℕ → Type 0
IsWithin v bounds = AllZip (λ x b. x ≤ b) v bounds

-- a box has the vectors below its sizes, and they rise
pub record BoxesAreFamilies : Type 0 where
  pub members : (sizes v : List ℕ) → Contains (box sizes) v ↔ IsBelow v sizes
  pub rising : (sizes : List ℕ) → IsRising (box sizes)

-- a bounded sum has the vectors within its bounds that add to n, and they rise
pub record SumsAreFamilies : Type 0 where
  pub members : (n : ℕ) (bounds v : List ℕ) → Contains (bounded_sums n bounds) v ↔ IsWithin v bounds × (sum v ≡ n)
  pub rising : (n : ℕ) (bounds : List ℕ) → IsRising (bounded_sums n bounds)

-- The list of one vector of subsets, by a descent: the vectors entry by entry, the greatest entry first.
use Rattle.std.specs.Prelude.{◌≡◌, ◌≤◌, ℕ, ◌+◌, ◌-◌, nat_le, zero, suc, ◌<◌, pos, true, false, List, [], ◌∷◌, ◌++◌, length, map, filter, reverse, take, sum, if◌then◌else◌}
use Rattle.sgb_vec.specs.Lexicographic.{IsWithin}
use Rattle.sgb_vec.specs.Limits.{most_vertices}
use Rattle.sgb_vec.specs.Sums.{bounded_sums}
use Rattle.sgb_gen.specs.LocalLists.{LocalArc}
use Rattle.sgb_gen.specs.Subsets.{common_size, is_wanted_size}

-- the arcs to the vectors that begin with some entries and go on with one of these: those that have a wanted size in
-- common with a vector that goes on with x, the first entries having `common` elements in common
abbrev pub arcs_under : ℕ → List ℕ → ℕ → List ℕ → List (List ℕ) → List LocalArc
arcs_under size_bits front common x ends =
    map (λ v. record { tip = front ++ v; len = pos 1 }) (filter (λ v. is_wanted_size size_bits (common_size x v + common)) ends)

-- the entries of a vector before those that stand where the last ones, x, do
abbrev pub front_of : List ℕ → List ℕ → List ℕ
front_of tip x = take (length tip - length x) tip

-- the vectors that add to `left` and begin with e, the other entries being within the bounds, the last one first
abbrev pub row : ℕ → List ℕ → ℕ → List (List ℕ)
row left bounds e = if nat_le e left then map (λ v. e ∷ v) (reverse (bounded_sums (left - e) bounds)) else []

-- those that begin with one of n entries from `low` on, the greatest of them first
abbrev pub rows : ℕ → List ℕ → ℕ → ℕ → List (List ℕ)
rows left bounds low zero = []
rows left bounds low (suc n) = row left bounds (low + n) ++ rows left bounds low n

-- the vectors within the bounds with the sum of x, from the last one down to x
abbrev pub down_to : List ℕ → List ℕ → List (List ℕ)
down_to [] x = [] ∷ []
down_to (b ∷ bounds) [] = []
down_to (b ∷ bounds) (x ∷ xs) = rows (x + sum xs) bounds (x + 1) (b - x) ++ map (λ v. x ∷ v) (down_to bounds xs)

-- and those from x down to the first one
abbrev pub down_from : List ℕ → List ℕ → List (List ℕ)
down_from [] x = [] ∷ []
down_from (b ∷ bounds) [] = []
down_from (b ∷ bounds) (x ∷ xs) = map (λ v. x ∷ v) (down_from bounds xs) ++ rows (x + sum xs) bounds 0 x

-- what is known where some entries of a vector are placed: what the bounds of the others add to, what the other entries
-- of x add to, and that what is placed and what is left are few
pub record IsBegun (bounds x : List ℕ) (room shared left common : ℕ) : Type 0 where
  pub within : IsWithin x bounds
  pub bounds_add : room ≡ sum bounds
  pub own_add : shared ≡ sum x
  pub few : common + left ≤ most_vertices

-- each wanted size is one of those from the first to the last
abbrev pub AreBetween : ℕ → ℕ → ℕ → Type 0
AreBetween size_bits first last = (k : ℕ) → is_wanted_size size_bits k ≡ true → (first ≤ k) × (k ≤ last)

-- no vector that goes on with this entry, where x goes on with its own one, has a wanted size in common
abbrev pub HasNoArcs : ℕ → ℕ → ℕ → ℕ → ℕ → ℕ → ℕ → ℕ → Type 0
HasNoArcs size_bits room shared left common bound own entry =
    (front bounds x : List ℕ) → IsBegun (bound ∷ bounds) (own ∷ x) room shared left common
    → arcs_under size_bits front common (own ∷ x) (row left bounds entry) ≡ []

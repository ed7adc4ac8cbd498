-- How many moves a simplex has, by pairs of places, with no move made.
use Rattle.std.specs.Prelude.{◌≡◌, ◌<◌, ◌≤◌, ℕ, ◌+◌, ◌-◌, List, [], ◌∷◌, length, filter, slice_index, slice_set, All}
use Rattle.sgb_vec.specs.Limits.{most_vertices}
use Rattle.sgb_vec.specs.Sums.{BoundedSum, bounded_sums}
use Rattle.sgb_gen.specs.Simplexes.{Places}
use Rattle.sgb_gen.specs.inner.Simplexes.{can_shift}
use Rattle.sgb_gen.specs.declared.accepted.simplexes.known.KnownCount.{KnownCount}

-- numbers with one less at a place
abbrev pub less_at : List ℕ → ℕ → List ℕ
less_at xs i = slice_set xs i (slice_index xs i - 1)

-- the bounds with one less at both places
abbrev pub lowered : List ℕ → Places → List ℕ
lowered bounds at = less_at (less_at bounds at.lower) at.higher

-- from how many vectors of a bounded sum a unit can go from the lower place to the higher one
abbrev pub shifts_count : BoundedSum → Places → ℕ
shifts_count s at = length (filter (λ x. can_shift s.bounds x at) (bounded_sums s.total s.bounds))

-- the same for each of these pairs of places, added
abbrev pub shifts_by : BoundedSum → List Places → ℕ
shifts_by s [] = 0
shifts_by s (at ∷ pairs) = shifts_count s at + shifts_by s pairs

-- a count that is known of two bounds is that of each pair of places with these bounds
pub record IsKnown (s : BoundedSum) (k : KnownCount) : Type 0 where
  pub small : k.count ≤ most_vertices
  pub same : (at : Places) → at.lower < at.higher → at.higher < length s.bounds
      → slice_index s.bounds at.lower ≡ k.low → slice_index s.bounds at.higher ≡ k.high → shifts_count s at ≡ k.count

-- so is each of some counts
abbrev pub AreKnown : BoundedSum → List KnownCount → Type 0
AreKnown s known = All (IsKnown s) known

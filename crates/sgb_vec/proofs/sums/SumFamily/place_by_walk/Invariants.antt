use Rattle.std.proofs.Common.{◌≡◌, ℕ, ◌≤◌, Some, slice_get}
use Rattle.sgb_vec.specs.Sums.{bounded_sums}
use Rattle.sgb_vec.proofs.sums.SumFamily.place_by_walk.Given as goal

-- so many members were left behind, and the vector was not among them
abbrev pub invariant-loop-place : goal.invariant-loop-place
invariant-loop-place l =
    (slice_get (bounded_sums l.self.total l.self.bounds) l.place ≡ Some l.walked.items)
    × ((p : ℕ) → slice_get (bounded_sums l.self.total l.self.bounds) p ≡ Some l.vector → l.place ≤ p)

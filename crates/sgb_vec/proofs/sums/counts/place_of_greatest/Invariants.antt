use Rattle.std.proofs.Common.{ℕ, ◌<◌, ◌≤◌, length, get_or}
use Rattle.sgb_vec.proofs.sums.counts.place_of_greatest.Given as goal

-- the greatest of the bounds before the place
abbrev pub invariant-loop-place : goal.invariant-loop-place
invariant-loop-place l = (l.greatest < l.place) × (l.place ≤ length l.bounds) × ((k : ℕ) → k < l.place → get_or l.bounds k 0 ≤ get_or l.bounds l.greatest 0)

use Rattle.std.proofs.Common.{◌≡◌, length}
use Rattle.sgb_vec.proofs.SumPlaces.{IsPutUpTo}
use Rattle.sgb_vec.proofs.sums.places.put_at.Given as goal

abbrev pub invariant-loop-k : goal.invariant-loop-k
invariant-loop-k l = IsPutUpTo l.total l.bounds l.place l.entries l.k l.left l.rest × (length l.entries ≡ length l.bounds)

use Rattle.sgb_vec.proofs.SumPlaces.{IsPlaceSoFar}
use Rattle.sgb_vec.proofs.sums.places.place_among.Given as goal

abbrev pub invariant-loop-k : goal.invariant-loop-k
invariant-loop-k l = IsPlaceSoFar l.total l.bounds l.vector l.k l.left l.place

use Rattle.std.proofs.Common.{◌≤◌, Contains}
use Rattle.sgb_vec.specs.Sums.{bounded_sums}
use Rattle.sgb_vec.proofs.SumPlaces.{IsPlaceSoFar}
use Rattle.sgb_gen.proofs.counted_places.CountedPlaces.place_if_there.Given as goal

-- no more is left than all, and of a vector that is among them the entries so far make the place
abbrev pub invariant-loop-k : goal.invariant-loop-k
invariant-loop-k l =
    let sum = l.self-inside.family.now in
    record {
      small : l.left ≤ sum.total;
      place : Contains (bounded_sums sum.total sum.bounds) l.x → IsPlaceSoFar sum.total sum.bounds l.x l.k l.left l.place;
    }

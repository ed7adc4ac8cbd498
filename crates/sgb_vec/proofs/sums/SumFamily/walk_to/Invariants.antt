use Rattle.std.proofs.Common.{◌≡◌, Some, slice_get}
use Rattle.sgb_vec.specs.Sums.{bounded_sums}
use Rattle.sgb_vec.proofs.sums.SumFamily.walk_to.Given as goal

-- so many members were left behind
abbrev pub invariant-loop-k : goal.invariant-loop-k
invariant-loop-k l = slice_get (bounded_sums l.self.total l.self.bounds) l._k ≡ Some l.vector.items

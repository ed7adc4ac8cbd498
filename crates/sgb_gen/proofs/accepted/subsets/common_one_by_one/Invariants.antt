use Rattle.std.proofs.Common.{length}
use Rattle.sgb_gen.proofs.CommonSizes.{IsCommonSoFar}
use Rattle.sgb_gen.proofs.accepted.subsets.common_one_by_one.Given as goal

-- the entries so far are counted
abbrev pub invariant-loop-x : goal.invariant-loop-x
invariant-loop-x l = IsCommonSoFar l.u l.v (length l.yielded) l.total

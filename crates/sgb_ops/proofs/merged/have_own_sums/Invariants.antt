use Rattle.std.proofs.Common.{take}
use Rattle.sgb_ops.proofs.OwnSums.{HaveOwnSums}
use Rattle.sgb_ops.proofs.merged.have_own_sums.Given as goal

-- no two of the events so far have the same
abbrev pub invariant-loop-i : goal.invariant-loop-i
invariant-loop-i l = HaveOwnSums (take l.i l.events)

use Rattle.std.proofs.Common.{take}
use Rattle.sgb_ops.proofs.OwnSums.{HaveOtherSums}
use Rattle.sgb_ops.proofs.merged.has_sum.Given as goal

-- none of the events so far has it
abbrev pub invariant-loop-event : goal.invariant-loop-event
invariant-loop-event l = HaveOtherSums l.sum (take l.event-index l.events)

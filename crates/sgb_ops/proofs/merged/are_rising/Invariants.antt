use Rattle.std.proofs.Common.{take}
use Rattle.sgb_ops.proofs.RisingSums.{RiseTo}
use Rattle.sgb_ops.proofs.merged.are_rising.Given as goal

-- the sums of the events so far rise
abbrev pub invariant-loop-event : goal.invariant-loop-event
invariant-loop-event l = RiseTo l.least (take l.event-index l.events)

use Rattle.std.proofs.Common.{take}
use Rattle.sgb_ops.proofs.Apart.{SoFar}
use Rattle.sgb_ops.proofs.merged.have_own_bits.Given as goal

-- the bits of the events so far are set, and they have different ones
abbrev pub invariant-loop-event : goal.invariant-loop-event
invariant-loop-event l = SoFar l.seen (take l.event-index l.events)

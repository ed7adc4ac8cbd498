use Rattle.std.proofs.Common.{◌≡◌, take}
use Rattle.sgb_ops.specs.inner.Tallies.{tally_to}
use Rattle.sgb_ops.proofs.tallies.tally_to.Given as goal

-- the tally of the arcs so far
abbrev pub invariant-loop-arc : goal.invariant-loop-arc
invariant-loop-arc l = l.tally ≡ tally_to l.u (take l.arc-index l.arcs)

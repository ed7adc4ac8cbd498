use Rattle.std.proofs.Common.{◌≡◌, take}
use Rattle.sgb_ops.specs.Intersection.{count_to}
use Rattle.sgb_ops.proofs.tallies.count_to.Given as goal

-- the number of those so far
abbrev pub invariant-loop-arc : goal.invariant-loop-arc
invariant-loop-arc l = l.count ≡ count_to l.u (take l.arc-index l.arcs)

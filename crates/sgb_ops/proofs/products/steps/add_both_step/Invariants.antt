use Rattle.std.proofs.Common.{map}
use Rattle.sgb_ops.specs.inner.Steps.{both_step}
use Rattle.sgb_ops.proofs.Places.{ListLeft}
use Rattle.sgb_ops.proofs.products.steps.add_both_step.Given as goal

-- the steps with the arcs that are left are still to come
abbrev pub invariant-loop-other : goal.invariant-loop-other
invariant-loop-other l = ListLeft l.directed l.fn.built l.built (map (both_step l.h l.x l.y l.arc)) l.others l.other-index

use Rattle.sgb_ops.specs.inner.Steps.{steps_by}
use Rattle.sgb_ops.proofs.Places.{ListLeft}
use Rattle.sgb_ops.proofs.products.steps.Axis.add_steps_by.Given as goal

-- the steps by the arcs that are left are still to come
abbrev pub invariant-loop-arc : goal.invariant-loop-arc
invariant-loop-arc l = ListLeft l.directed l.fn.built l.built (steps_by l.self l.along l.beside l.v) l.arcs l.arc-index

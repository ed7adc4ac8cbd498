use Rattle.sgb_ops.specs.inner.Steps.{both_steps_by}
use Rattle.sgb_ops.proofs.Places.{ListLeft}
use Rattle.sgb_ops.proofs.products.steps.add_both_steps_by.Given as goal

-- the steps by the arcs of x that are left are still to come
abbrev pub invariant-loop-arc : goal.invariant-loop-arc
invariant-loop-arc l = ListLeft l.directed l.fn.built l.built (λ row. both_steps_by l.h l.x l.y row l.others) l.row l.arc-index

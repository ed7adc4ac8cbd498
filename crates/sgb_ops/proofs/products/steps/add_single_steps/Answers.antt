use Rattle.sgb_graph.proofs.AddedEvents.{adds-then}
use Rattle.sgb_graph.specs.Vertices.{order_of}
use Rattle.sgb_ops.specs.inner.Steps.{steps_along}
use Rattle.sgb_ops.specs.declared.products.steps.Axis.TheVariants.{First, Second}
use Rattle.sgb_ops.proofs.products.steps.add_single_steps.Goals as goal

pub returns-clause-ok : goal.returns-clause-ok
returns-clause-ok c =
    let g = c.args.first.now in
    let h = c.args.second.now in
    let d = c.args.directed in
    adds-then d c.args.built.now c.add_steps.new.built c.add_steps-2.new.built (steps_along Second h (order_of g) d) (steps_along First g (order_of h) d)
    (rw c.n.ensures.count at c.in_ok-add_steps.ensures.ok) (rw c.n-2.ensures.count at c.in_ok-add_steps-2.ensures.ok)

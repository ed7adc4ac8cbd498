use Rattle.sgb_vec.proofs.Common.{drop, ap, arith, refl, drop_all}
use Rattle.sgb_graph.proofs.AddedEvents.{up_to-all}
use Rattle.sgb_ops.specs.inner.Steps.{steps_by}
use Rattle.sgb_ops.proofs.Places.{arc_added}
use Rattle.sgb_ops.proofs.products.steps.Axis.add_steps_by.Goals as goal

pub loop-arc-preserved : goal.loop-arc-preserved
loop-arc-preserved c =
    arc_added c.args.directed c.args.built.now c.loop-arc.built c.add_step.new.built (steps_by c.args.self c.args.along c.args.beside c.args.v) c.args.arcs.now c.loop-arc.arc-index _
    (omega arith) c.loop-arc.invariant c.in_ok-add_step.ensures.ok refl

pub returns-clause-ok : goal.returns-clause-ok
returns-clause-ok c =
    let steps = steps_by c.args.self c.args.along c.args.beside c.args.v in
    let arcs = c.args.arcs.now in
    let i = c.loop-arc.arc-index in
    up_to-all c.args.directed c.args.built.now c.loop-arc.built (steps (drop i arcs)) (steps arcs) c.loop-arc.invariant (ap steps (drop_all i arcs (omega arith)))

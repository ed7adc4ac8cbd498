use Rattle.sgb_vec.proofs.Common.{List, drop, ap, arith, refl, drop_all}
use Rattle.sgb_graph.specs.declared.fields.Link.{Link}
use Rattle.sgb_graph.proofs.AddedEvents.{up_to-all}
use Rattle.sgb_ops.specs.inner.Steps.{both_steps_by}
use Rattle.sgb_ops.proofs.Places.{arc_added}
use Rattle.sgb_ops.proofs.products.steps.add_both_steps_by.Goals as goal

pub loop-arc-preserved : goal.loop-arc-preserved
loop-arc-preserved c =
    arc_added c.args.directed c.args.built.now c.loop-arc.built c.add_both_step.new.built (λ row. both_steps_by c.args.h c.args.x c.args.y row c.args.others.now) c.args.row.now c.loop-arc.arc-index _
    (omega arith) c.loop-arc.invariant c.in_ok-add_both_step.ensures.ok refl

pub returns-clause-ok : goal.returns-clause-ok
returns-clause-ok c =
    let steps = λ (row : List Link). both_steps_by c.args.h c.args.x c.args.y row c.args.others.now in
    let row = c.args.row.now in
    let i = c.loop-arc.arc-index in
    up_to-all c.args.directed c.args.built.now c.loop-arc.built (steps (drop i row)) (steps row) c.loop-arc.invariant (ap steps (drop_all i row (omega arith)))

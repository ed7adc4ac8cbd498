use Rattle.sgb_vec.proofs.Common.{Ok, w64, subst, to_z-of_z}
use Rattle.sgb_graph.specs.Descriptions.{IsAnswerOf}
use Rattle.sgb_gen.specs.Boards.{board}
use Rattle.sgb_ops.specs.inner.Boards.{rim_of_wheel}
use Rattle.sgb_ops.proofs.RimEntries.{built_entry}
use Rattle.sgb_ops.proofs.wheels.built_rim.Goals as goal

pub returns-clause-ok : goal.returns-clause-ok
returns-clause-ok c =
    let answer = subst (λ k. IsAnswerOf (board (rim_of_wheel k c.args.directed)) (Ok c.in_ok-graph.graph)) (to_z-of_z w64 c.args.n c.ranges.n) c.in_ok-graph.ensures.answer in
    cc (built_entry (board (rim_of_wheel c.args.n c.args.directed)) c.in_ok-graph.graph answer, c.in_ok-boxed.ensures.ok, c.graph.ensures)

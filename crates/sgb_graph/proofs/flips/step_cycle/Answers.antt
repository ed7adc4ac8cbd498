use Rattle.sgb_graph.proofs.Cycles.{cycling_more}
use Rattle.sgb_graph.proofs.flips.step_cycle.Goals as goal

pub loop-i-preserved : goal.loop-i-preserved
loop-i-preserved c = cycling_more _ c.loop-i.numbers c.loop-i.i c.difference.result c.loop-i.invariant c.loop-i-test.true c.difference.ensures

use Rattle.std.proofs.Common.{rules}
use Rattle.sgb_graph.proofs.FirstCycle.{filling_none, filling_at}
use Rattle.sgb_graph.proofs.flips.first_cycle.Goals as goal

pub loop-k-init : goal.loop-k-init
loop-k-init c = filling_none c.args.seed c.requires

pub loop-k-preserved : goal.loop-k-preserved
loop-k-preserved c = search (rules, filling_at)

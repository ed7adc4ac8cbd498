use Rattle.sgb_taken.proofs.TakenTips.{TipBelow, all_taken}
use Rattle.std.proofs.Common.{length}
use Rattle.sgb_taken.proofs.taken_arcs.taken.Goals as goal

pub returns-clause-tips : goal.returns-clause-tips
returns-clause-tips c = all_taken (TipBelow (length c.args.graph.now.vertices)) c.args.directed c.args.v c.arcs.result c.arcs.ensures.tips

use Rattle.std.proofs.Common.{rules}
use Rattle.sgb_ops.proofs.OwnSums.{HaveOtherSums, other_more}
use Rattle.sgb_ops.proofs.merged.has_sum.Goals as goal

pub loop-event-preserved : goal.loop-event-preserved
loop-event-preserved c = search (rules, HaveOtherSums, other_more)

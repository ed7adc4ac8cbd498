use Rattle.std.proofs.Common.{rules}
use Rattle.sgb_ops.proofs.EntryTotals.{total_more, kept_more}
use Rattle.sgb_ops.proofs.induced_graphs.entries.own_total.Goals as goal

pub loop-v-preserved : goal.loop-v-preserved
loop-v-preserved c = search (rules, total_more, kept_more)

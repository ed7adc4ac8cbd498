use Rattle.std.proofs.Common.{rules}
use Rattle.std.specs.List.{list_all}
use Rattle.sgb_ops.proofs.PlainLists.{places-next}
use Rattle.sgb_ops.proofs.line_graphs.line.have_ways_back.Goals as goal

pub loop-v-preserved : goal.loop-v-preserved
loop-v-preserved c = search (rules, list_all, places-next)

use Rattle.std.proofs.Common.{rules}
use Rattle.sgb_ops.specs.inner.Compounds.{merged_name}
use Rattle.sgb_ops.proofs.PlainLists.{numbers_more}
use Rattle.sgb_ops.proofs.induced_graphs.copied_names.push_merged.Goals as goal

pub loop-k-preserved : goal.loop-k-preserved
loop-k-preserved c = search (rules, numbers_more, merged_name)

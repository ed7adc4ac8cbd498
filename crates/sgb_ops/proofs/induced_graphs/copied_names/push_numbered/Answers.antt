use Rattle.std.proofs.Common.{rules}
use Rattle.sgb_ops.specs.inner.Compounds.{numbered_name}
use Rattle.sgb_ops.proofs.PlainLists.{numbers_more}
use Rattle.sgb_ops.proofs.induced_graphs.copied_names.push_numbered.Goals as goal

pub loop-k-preserved : goal.loop-k-preserved
loop-k-preserved c = search (rules, numbers_more, numbered_name)

use Rattle.std.proofs.Common.{rules}
use Rattle.sgb_ops.specs.inner.Circles.{name_around}
use Rattle.sgb_ops.proofs.CircleBoards.{joined_around}
use Rattle.sgb_ops.proofs.PlainLists.{numbers_more}
use Rattle.sgb_ops.proofs.circles.Circle.push_names.Goals as goal

pub loop-w-preserved : goal.loop-w-preserved
loop-w-preserved c = search (rules, numbers_more, name_around)

pub returns-clause-ok : goal.returns-clause-ok
returns-clause-ok c = search (rules, joined_around)

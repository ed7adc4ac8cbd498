use Rattle.std.proofs.Common.{rules, subst}
use Rattle.sgb_ops.specs.inner.Sources.{HasTips}
use Rattle.sgb_ops.proofs.CircleBoards.{order_around, tips_around}
use Rattle.sgb_ops.proofs.circles.Circle.n.Goals as goal

pub returns-clause-count : goal.returns-clause-count
returns-clause-count c = search (rules, order_around)

pub returns-clause-tips : goal.returns-clause-tips
returns-clause-tips c = subst HasTips c.self.view_is (tips_around _)

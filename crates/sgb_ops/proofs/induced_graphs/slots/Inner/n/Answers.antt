use Rattle.std.proofs.Common.{ap, subst, sym}
use Rattle.sgb_ops.specs.inner.Slots.{inner_held}
use Rattle.sgb_ops.specs.inner.Sources.{HasTips}
use Rattle.sgb_ops.proofs.ListedEvents.{kept_tips}
use Rattle.sgb_ops.proofs.induced_graphs.slots.Inner.n.Goals as goal

pub returns-in-Built-clause-tips : goal.returns-in-Built-clause-tips
returns-in-Built-clause-tips c = subst HasTips (ap inner_held (sym c.in-Built.is)) (kept_tips c.in-Built.graph.now c.n.ensures.kept)

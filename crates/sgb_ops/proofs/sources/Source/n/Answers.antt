use Rattle.std.proofs.Common.{◌∙◌, ap, subst, sym}
use Rattle.sgb_ops.specs.inner.Sources.{HasTips, graph_kept}
use Rattle.sgb_ops.proofs.ListedEvents.{kept_tips}
use Rattle.sgb_ops.proofs.sources.Source.n.Goals as goal

pub returns-in-Built-clause-tips : goal.returns-in-Built-clause-tips
returns-in-Built-clause-tips c = subst HasTips (ap graph_kept (sym c.in-Built.is) ∙ c.self.view_is) (kept_tips c.in-Built.graph.now c.n.ensures.kept)

pub returns-in-Listed-clause-tips : goal.returns-in-Listed-clause-tips
returns-in-Listed-clause-tips c = subst HasTips (ap graph_kept (sym c.in-Listed.is) ∙ c.self.view_is) c.size.ensures.tips

use Rattle.std.proofs.Common.{length, sym, ap, ◌∙◌}
use Rattle.sgb_gen.proofs.SpanArcs.{lengths-count}
use Rattle.sgb_gen.proofs.spans.Span.len.Goals as goal

pub returns : goal.returns
returns c = sym (lengths-count c.self.inside.rising c.self.inside.from c.self.inside.to) ∙ ap (λ s. length s.lengths) c.self.view_is

use Rattle.sgb.proofs.Pages.{page_given}
use Rattle.sgb.proofs.writing.line_sink.ArcLinesArcSinkPage.put_span.Goals as goal

pub returns-clause-given : goal.returns-clause-given
returns-clause-given g c =
    page_given g.W.Sink.written g.W.Sink.has_failed c.args.page.now _ c.args.out.now _ _ _ c.push_span.ensures.paged c.push_span.ensures.fault

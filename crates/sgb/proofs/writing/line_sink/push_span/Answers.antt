use Rattle.std.proofs.Common.{arith}
use Rattle.sgb.proofs.CutOff.{exit_write}
use Rattle.sgb.proofs.Pages.{exit_part, paged_all, paged_more, paged_none}
use Rattle.sgb.proofs.SpanLines.{next-line, no-lines}
use Rattle.sgb.proofs.writing.line_sink.push_span.Goals as goal

pub loop-k-init : goal.loop-k-init
loop-k-init g c = (paged_none _ c.args.page.now _, c.requires.sound)

pub returns-in_err-push_moved_line-clause-paged : goal.returns-in_err-push_moved_line-clause-paged
returns-in_err-push_moved_line-clause-paged g c =
    exit_part _ _ _ _ _ _ _ _ _ _ _ _ _ c.from_residual.ensures.1 c.loop-k.invariant.0 c.in_err-push_moved_line.ensures.paged
    (next-line c.args.span.now c.loop-k.k c.length_at.result c.length_at.ensures)

pub loop-k-preserved : goal.loop-k-preserved
loop-k-preserved g c = (
  paged_more _ _ _ _ _ _ _ _ _ _ (next-line c.args.span.now c.loop-k.k c.length_at.result c.length_at.ensures) c.loop-k.invariant.0
      c.in_ok-push_moved_line.ensures.paged.output,
  c.in_ok-push_moved_line.ensures.paged.sound,
)

pub returns-clause-paged : goal.returns-clause-paged
returns-clause-paged g c = record {
  output = paged_all _ _ _ _ _ _ (no-lines c.args.span.now c.loop-k.k c.len-k-end.result c.len-k-end.ensures (omega arith)) c.loop-k.invariant.0;
  sound = c.loop-k.invariant.1;
}

pub returns-in_err-push_moved_line-clause-fault : goal.returns-in_err-push_moved_line-clause-fault
returns-in_err-push_moved_line-clause-fault g c = exit_write _ _ c.from_residual.ensures.1 c.in_err-push_moved_line.ensures.fault

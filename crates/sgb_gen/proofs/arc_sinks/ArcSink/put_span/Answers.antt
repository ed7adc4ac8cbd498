use Rattle.std.proofs.Common.{arith, refl}
use Rattle.sgb_gen.proofs.ArcsInTurn.{exit_part, so_far_all, so_far_begun, so_far_more}
use Rattle.sgb_gen.proofs.SpanArcs.{next-apart, none-left}
use Rattle.sgb_gen.proofs.arc_sinks.ArcSink.put_span.Goals as goal

pub loop-k-init : goal.loop-k-init
loop-k-init g c = (so_far_begun (g.met.Self.ArcSink.laws c.args.self.now) _ _ _ _ refl, c.requires.ready, c.put_start.ensures)

pub returns-in_err-put_arc-clause-given : goal.returns-in_err-put_arc-clause-given
returns-in_err-put_arc-clause-given g c =
    exit_part (g.met.Self.ArcSink.laws c.args.self.now) _ _ _ _ _ _ _ _ _ _ _ _ c.from_residual.ensures.1
    (next-apart c.args.span.now c.loop-k.k c.length_at-l.result c.length_at-l.ensures) c.loop-k.invariant.0
    (rw (c.as_slice.ensures.value, c.put_tip.ensures.tip) at c.in_err-put_arc.ensures.given)

pub loop-k-preserved : goal.loop-k-preserved
loop-k-preserved g c = (
  so_far_more (g.met.Self.ArcSink.laws c.args.self.now) _ _ _ _ _ _ _ _ _ _
      (next-apart c.args.span.now c.loop-k.k c.length_at-l.result c.length_at-l.ensures) c.loop-k.invariant.0
      (rw (c.as_slice.ensures.value, c.put_tip.ensures.tip) at c.in_ok-put_arc.ensures.given),
  c.in_ok-put_arc.ensures.ready,
  c.put_tip.ensures.there,
)

pub returns-clause-given : goal.returns-clause-given
returns-clause-given g c =
    so_far_all (g.met.Self.ArcSink.laws c.args.self.now) _ _ _ _ _ _
    (none-left c.args.span.now c.loop-k.k c.len-k-end.result c.len-k-end.ensures (omega arith)) c.loop-k.invariant.0

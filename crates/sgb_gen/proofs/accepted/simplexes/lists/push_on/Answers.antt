use Rattle.std.proofs.Common.{length, reverse, refl, ap, arith}
use Rattle.std.specs.List.{flat_map, range_with_len}
use Rattle.sgb_gen.specs.inner.LocalSimplexes.{arcs_on}
use Rattle.sgb_gen.specs.inner.Simplexes.{pairs_from}
use Rattle.sgb_gen.proofs.ArcsInTurn.{exit_part, so_far_all, so_far_begun, so_far_more}
use Rattle.sgb_gen.proofs.PairWalks.{arcs_on-append, below-last}
use Rattle.sgb_gen.proofs.accepted.simplexes.lists.push_on.Goals as goal

pub loop-lower-init : goal.loop-lower-init
loop-lower-init g c = (refl, so_far_begun (g.met.K.ArcSink.laws c.args.sink.now) _ _ _ _ refl, c.requires.ready)

pub returns-in_err-push_on_from-clause-given : goal.returns-in_err-push_on_from-clause-given
returns-in_err-push_on_from-clause-given g c =
    exit_part (g.met.K.ArcSink.laws c.args.sink.now) _ _ _ _ _ _ _ _ _ _ _ _ c.from_residual.ensures.1
    (below-last (arcs_on c.args.bounds.now c.args.tip.now) (arcs_on-append c.args.bounds.now c.args.tip.now) (length c.args.tip.now) c.loop-lower.lower (omega arith)) c.loop-lower.invariant.1 (rw c.loop-lower.invariant.0 at c.in_err-push_on_from.ensures.given)

pub loop-lower-preserved : goal.loop-lower-preserved
loop-lower-preserved g c = (
  rw c.loop-lower.invariant.0 at c.in_ok-push_on_from.ensures.same,
  so_far_more (g.met.K.ArcSink.laws c.args.sink.now) _ _ _ _ _ _ _ _ _ _
      (below-last (arcs_on c.args.bounds.now c.args.tip.now) (arcs_on-append c.args.bounds.now c.args.tip.now) (length c.args.tip.now) c.loop-lower.lower (omega arith)) c.loop-lower.invariant.1 (rw c.loop-lower.invariant.0 at c.in_ok-push_on_from.ensures.given),
  c.in_ok-push_on_from.ensures.ready,
)

pub returns-clause-given : goal.returns-clause-given
returns-clause-given g c =
    so_far_all (g.met.K.ArcSink.laws c.args.sink.now) _ _ _ _ _ _ (ap (λ k. arcs_on c.args.bounds.now c.args.tip.now (reverse (flat_map (pairs_from (length c.args.tip.now)) (range_with_len 0 k)))) {x = c.loop-lower.lower} {y = 0} (omega arith)) c.loop-lower.invariant.1

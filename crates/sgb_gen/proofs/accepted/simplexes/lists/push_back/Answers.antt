use Rattle.std.proofs.Common.{◌-◌, length, refl, ap, arith}
use Rattle.std.specs.List.{flat_map, range_with_len}
use Rattle.sgb_gen.specs.inner.LocalSimplexes.{arcs_back, pairs_down}
use Rattle.sgb_gen.proofs.ArcsInTurn.{exit_part, so_far_all, so_far_begun, so_far_more}
use Rattle.sgb_gen.proofs.PairWalks.{arcs_back-append, from-first}
use Rattle.sgb_gen.proofs.accepted.simplexes.lists.push_back.Goals as goal

pub loop-lower-init : goal.loop-lower-init
loop-lower-init g c = (refl, so_far_begun (g.met.K.ArcSink.laws c.args.sink.now) _ _ _ _ (ap (λ k. arcs_back c.args.bounds.now c.args.tip.now (flat_map (pairs_down (length c.args.tip.now)) (range_with_len 0 k))) {x = length c.args.tip.now - 0} {y = length c.args.tip.now} (omega arith)), c.requires.ready)

pub returns-in_err-push_back_to-clause-given : goal.returns-in_err-push_back_to-clause-given
returns-in_err-push_back_to-clause-given g c =
    exit_part (g.met.K.ArcSink.laws c.args.sink.now) _ _ _ _ _ _ _ _ _ _ _ _ c.from_residual.ensures.1
    (from-first (arcs_back c.args.bounds.now c.args.tip.now) (arcs_back-append c.args.bounds.now c.args.tip.now) (length c.args.tip.now) c.loop-lower.lower (omega arith)) c.loop-lower.invariant.1 (rw c.loop-lower.invariant.0 at c.in_err-push_back_to.ensures.given)

pub loop-lower-preserved : goal.loop-lower-preserved
loop-lower-preserved g c = (
  rw c.loop-lower.invariant.0 at c.in_ok-push_back_to.ensures.same,
  so_far_more (g.met.K.ArcSink.laws c.args.sink.now) _ _ _ _ _ _ _ _ _ _
      (from-first (arcs_back c.args.bounds.now c.args.tip.now) (arcs_back-append c.args.bounds.now c.args.tip.now) (length c.args.tip.now) c.loop-lower.lower (omega arith)) c.loop-lower.invariant.1 (rw c.loop-lower.invariant.0 at c.in_ok-push_back_to.ensures.given),
  c.in_ok-push_back_to.ensures.ready,
)

pub returns-clause-given : goal.returns-clause-given
returns-clause-given g c =
    so_far_all (g.met.K.ArcSink.laws c.args.sink.now) _ _ _ _ _ _ (ap (λ k. arcs_back c.args.bounds.now c.args.tip.now (flat_map (pairs_down (length c.args.tip.now)) (range_with_len c.loop-lower.lower k))) {x = length c.args.tip.now - c.loop-lower.lower} {y = 0} (omega arith)) c.loop-lower.invariant.1

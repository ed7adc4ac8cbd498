use Rattle.std.proofs.Common.{refl, ap, arith}
use Rattle.sgb_gen.specs.inner.LocalSimplexes.{arcs_back}
use Rattle.sgb_gen.proofs.ArcsInTurn.{exit_part, so_far_all, so_far_begun, so_far_more}
use Rattle.sgb_gen.proofs.PairWalks.{back-first, down-none}
use Rattle.sgb_gen.proofs.accepted.simplexes.lists.push_back_to.Goals as goal

pub loop-higher-init : goal.loop-higher-init
loop-higher-init g c =
    (omega arith, refl, so_far_begun (g.met.K.ArcSink.laws c.args.sink.now) _ _ _ _ refl, c.requires.ready)

pub returns-in_err-push_one-clause-given : goal.returns-in_err-push_one-clause-given
returns-in_err-push_one-clause-given g c =
    exit_part (g.met.K.ArcSink.laws c.args.sink.now) _ _ _ _ _ _ _ _ _ _ _ _ c.from_residual.ensures.1
    (back-first c.args.bounds.now c.args.tip.now c.loop-higher.higher c.args.lower (omega arith)) c.loop-higher.invariant.2 (rw c.loop-higher.invariant.1 at c.in_err-push_one.ensures.given)

pub loop-higher-preserved : goal.loop-higher-preserved
loop-higher-preserved g c = (
  omega arith,
  rw c.loop-higher.invariant.1 at c.in_ok-push_one.ensures.same,
  so_far_more (g.met.K.ArcSink.laws c.args.sink.now) _ _ _ _ _ _ _ _ _ _
      (back-first c.args.bounds.now c.args.tip.now c.loop-higher.higher c.args.lower (omega arith)) c.loop-higher.invariant.2 (rw c.loop-higher.invariant.1 at c.in_ok-push_one.ensures.given),
  c.in_ok-push_one.ensures.ready,
)

pub returns-clause-given : goal.returns-clause-given
returns-clause-given g c =
    so_far_all (g.met.K.ArcSink.laws c.args.sink.now) _ _ _ _ _ _ (ap (arcs_back c.args.bounds.now c.args.tip.now) (down-none c.loop-higher.higher c.args.lower (omega arith))) c.loop-higher.invariant.2

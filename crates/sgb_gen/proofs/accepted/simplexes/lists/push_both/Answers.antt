use Rattle.std.proofs.Common.{true, false, refl}
use Rattle.sgb_gen.proofs.ArcsInTurn.{exit_part, given_last, so_far_all, so_far_begun, so_far_more}
use Rattle.sgb_gen.proofs.PairWalks.{by_pairs}
use Rattle.sgb_gen.proofs.accepted.simplexes.lists.push_both.Goals as goal

pub returns-in_err-push_back-clause-given : goal.returns-in_err-push_back-clause-given
returns-in_err-push_back-clause-given g c =
    exit_part (g.met.K.ArcSink.laws c.args.sink.now) _ _ _ _ _ _ _ _ _ _ _ _ c.from_residual.ensures.1
    (by_pairs c.args.directed c.args.directed c.args.bounds.now c.args.tip.now refl) (so_far_begun (g.met.K.ArcSink.laws c.args.sink.now) _ _ _ _ refl) c.in_err-push_back.ensures.given

pub returns-then-directed-clause-given : goal.returns-then-directed-clause-given
returns-then-directed-clause-given g c =
    so_far_all (g.met.K.ArcSink.laws c.args.sink.now) _ _ _ _ _ _ refl
    (so_far_more (g.met.K.ArcSink.laws c.args.sink.now) _ _ _ _ _ _ _ _ _ _
    (by_pairs true c.args.directed c.args.bounds.now c.args.tip.now c.if-directed.true) (so_far_begun (g.met.K.ArcSink.laws c.args.sink.now) _ _ _ _ refl) c.in_ok-push_back.ensures.given)

pub returns-clause-given : goal.returns-clause-given
returns-clause-given g c =
    given_last (g.met.K.ArcSink.laws c.args.sink.now) _ _ _ _ _ _ _ _ _
    (so_far_more (g.met.K.ArcSink.laws c.args.sink.now) _ _ _ _ _ _ _ _ _ _
    (by_pairs false c.args.directed c.args.bounds.now c.args.tip.now c.if-directed.false) (so_far_begun (g.met.K.ArcSink.laws c.args.sink.now) _ _ _ _ refl) c.in_ok-push_back.ensures.given)
    (rw c.in_ok-push_back.ensures.same at c.push_on.ensures.given)

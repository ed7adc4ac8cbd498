use Rattle.std.proofs.Common.{true, false, refl, ◌∙◌}
use Rattle.sgb_gen.specs.inner.Descents.{front_of}
use Rattle.sgb_gen.proofs.ArcsInTurn.{exit_part, given_last, so_far_all, so_far_begun, so_far_more}
use Rattle.sgb_gen.proofs.DescentArcs.{walked}
use Rattle.sgb_gen.proofs.DescentSteps.{front-none}
use Rattle.sgb_gen.proofs.accepted.subsets.lists.push_both.Goals as goal

pub returns-in_err-push_to-clause-given : goal.returns-in_err-push_to-clause-given
returns-in_err-push_to-clause-given g c =
    let b = c.args.begun in
    let x = c.args.x.now in
    let tip = c.args.tip.now in
    let none = front-none tip x c.requires.place in
    exit_part (g.met.K.ArcSink.laws c.args.sink.now) _ _ _ _ _ _ _ _ _ _ _ _ c.from_residual.ensures.1
    (walked c.args.directed c.args.directed b.size_bits (front_of tip x) (front_of tip x) b.common b.left c.args.bounds.now x c.requires.begun.within c.requires.all c.requires.none none none refl)
    (so_far_begun (g.met.K.ArcSink.laws c.args.sink.now) _ _ _ _ refl) c.in_err-push_to.ensures.given

pub returns-then-directed-clause-given : goal.returns-then-directed-clause-given
returns-then-directed-clause-given g c =
    let b = c.args.begun in
    let x = c.args.x.now in
    let tip = c.args.tip.now in
    let none = front-none tip x c.requires.place in
    so_far_all (g.met.K.ArcSink.laws c.args.sink.now) _ _ _ _ _ _ refl
    (so_far_more (g.met.K.ArcSink.laws c.args.sink.now) _ _ _ _ _ _ _ _ _ _
    (walked true c.args.directed b.size_bits (front_of tip x) (front_of tip x) b.common b.left c.args.bounds.now x c.requires.begun.within c.requires.all c.requires.none none none c.if-directed.true)
    (so_far_begun (g.met.K.ArcSink.laws c.args.sink.now) _ _ _ _ refl) c.in_ok-push_to.ensures.given)

pub returns-clause-given : goal.returns-clause-given
returns-clause-given g c =
    let b = c.args.begun in
    let x = c.args.x.now in
    let tip = c.args.tip.now in
    let none = front-none tip x c.requires.place in
    given_last (g.met.K.ArcSink.laws c.args.sink.now) _ _ _ _ _ _ _ _ _
    (so_far_more (g.met.K.ArcSink.laws c.args.sink.now) _ _ _ _ _ _ _ _ _ _
    (walked false c.args.directed b.size_bits (front_of tip x) (front_of c.push_to.new.tip x) b.common b.left c.args.bounds.now x c.requires.begun.within c.requires.all c.requires.none none (c.in_ok-push_to.ensures.same ∙ none) c.if-directed.false)
    (so_far_begun (g.met.K.ArcSink.laws c.args.sink.now) _ _ _ _ refl) c.in_ok-push_to.ensures.given)
    c.push_from.ensures.given

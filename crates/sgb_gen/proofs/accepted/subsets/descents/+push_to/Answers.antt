use Rattle.std.proofs.Common.{◌≡◌, ◌+◌, ◌-◌, [], ◌∷◌, ◌++◌, length, set, min, refl, sym, ap, ap₂, ◌∙◌, inl, inr, arith}
use Rattle.std.proofs.lemmas.List.{length-set}
use Rattle.std.proofs.lemmas.Result.{on_ok_weaker}
use Rattle.sgb_gen.specs.inner.Descents.{arcs_under, down_to, front_of}
use Rattle.sgb_gen.proofs.ArcsInTurn.{exit_part, given_as, given_last, so_far_begun, so_far_more, took_none}
use Rattle.sgb_gen.proofs.DescentArcs.{HasEnded, ended-zero, ended-part, to-more, under-unwanted, unwanted-to}
use Rattle.sgb_gen.proofs.DescentSteps.{front-kept, front-placed, front-shorter, others-add}
use Rattle.sgb_gen.proofs.accepted.subsets.descents.+push_to.Goals as goal
use Rattle.sgb_gen.proofs.accepted.subsets.descents.+push_to.Goals.{in_default-via-in-Some+in_default, in_default-via-in_default}

pub returns-then-not-may_be_among-clause-given : goal.returns-then-not-may_be_among-clause-given
returns-then-not-may_be_among-clause-given g t c =
    let b = c.args.begun in
    let x = c.args.x.now in
    let bounds = c.args.bounds.now in
    let front = front_of c.args.tip.now x in
    let none = under-unwanted b.size_bits front b.common bounds x b.room b.shared b.left c.requires.begun c.if-not-may_be_among.ensures in
    took_none (g.met.K.ArcSink.laws c.args.sink.now) _ _ _ (unwanted-to b.size_bits front b.common b.left bounds x c.requires.begun.within c.requires.all none)

pub push_zeros-requires-clause-none : goal.push_zeros-requires-clause-none
push_zeros-requires-clause-none g t c = grind (arith, HasEnded, ended-zero)

pub returns-in_default-clause-given : goal.returns-in_default-clause-given
returns-in_default-clause-given g t c =
    let b = c.args.begun in
    let none : HasEnded c.args.bounds.now c.args.x.now = elim c.in_default.branch [
      | in_default-via-in-Some+in_default w ↦ inl w.in_default.ensures'.cases
      | in_default-via-in_default w ↦ inr w.in_default.ensures.cases
    ] in
    given_as (g.met.K.ArcSink.laws c.args.sink.now) _ _ _ _ _ _ _ (ended-part down_to (λ y. refl) b.size_bits (front_of c.args.tip.now c.args.x.now) b.common b.left c.args.bounds.now c.args.x.now c.requires.begun.within none c.requires.all)
    c.push_zeros.ensures.given

pub returns-clause-same : goal.returns-clause-same
returns-clause-same g t c = grind (arith, length-set, on_ok_weaker, front-shorter, set, front-kept)

pub returns-in_err-push_rows-clause-given : goal.returns-in_err-push_rows-clause-given
returns-in_err-push_rows-clause-given g t c =
    let b = c.args.begun in
    let s = c.in-Some-Some in
    let x = c.args.x.now in
    let x_is = s.ensures'.cases.0 in
    let tip = c.args.tip.now in
    let adds = others-add c.args.bounds.now x b.room b.shared b.left b.common s.bound.now s.bounds.now s.ensures.cases.0 c.requires.begun in
    let entries = c.with_room-entries.ensures.same s.bounds.now (adds ∙ ap (λ n. b.room - n) (sym c.from.ensures)) in
    let whole = to-more b.size_bits (front_of tip x) b.common b.left s.bound.now s.own.now c.min-end.result s.bounds.now s.x.now c.args.bounds.now x s.ensures.cases.0 x_is c.requires.all c.min-end.ensures in
    let part = ap₂ (λ f r. arcs_under b.size_bits f b.common (s.own.now ∷ s.x.now) r) (ap (front_of tip) (sym x_is)) (sym entries) in
    exit_part (g.met.K.ArcSink.laws c.args.sink.now) _ _ _ _ _ _ _ _ _ _ _ _ c.from_residual.ensures.1
    (whole ∙ ap (λ l. l ++ arcs_under b.size_bits (front_of tip x ++ s.own.now ∷ []) (b.common + min s.own.now s.own.now) s.x.now (down_to s.bounds.now s.x.now)) (sym part)) (so_far_begun (g.met.K.ArcSink.laws c.args.sink.now) _ _ _ _ refl)
    c.in_err-push_rows.ensures.given

pub returns-clause-given : goal.returns-clause-given
returns-clause-given g t c =
    let b = c.args.begun in
    let s = c.in-Some-Some in
    let x = c.args.x.now in
    let x_is = s.ensures'.cases.0 in
    let tip = c.args.tip.now in
    let adds = others-add c.args.bounds.now x b.room b.shared b.left b.common s.bound.now s.bounds.now s.ensures.cases.0 c.requires.begun in
    let entries = c.with_room-entries.ensures.same s.bounds.now (adds ∙ ap (λ n. b.room - n) (sym c.from.ensures)) in
    let whole = to-more b.size_bits (front_of tip x) b.common b.left s.bound.now s.own.now c.min-end.result s.bounds.now s.x.now c.args.bounds.now x s.ensures.cases.0 x_is c.requires.all c.min-end.ensures in
    let part = ap₂ (λ f r. arcs_under b.size_bits f b.common (s.own.now ∷ s.x.now) r) (ap (front_of tip) (sym x_is)) (sym entries) in
    let mid = c.push_rows.new.tip in
    let place = length tip - length x in
    let kept : front_of mid x ≡ front_of tip x = ap (front_of mid) x_is ∙ c.in_ok-push_rows.ensures.same ∙ ap (front_of tip) (sym x_is) in
    let front : front_of (set mid place s.own.now) s.x.now ≡ front_of tip x ++ s.own.now ∷ [] =
    front-placed mid x s.x.now s.own.now s.own.now place x_is (omega (arith, c.requires.place)) (omega arith) ∙ ap (λ f. f ++ s.own.now ∷ []) kept in
    let rest = ap₂ (λ q f. arcs_under q.size_bits f q.common s.x.now (down_to s.bounds.now s.x.now)) c.placed.ensures front in
    given_last (g.met.K.ArcSink.laws c.args.sink.now) _ _ _ _ _ _ _ _ _
    (so_far_more (g.met.K.ArcSink.laws c.args.sink.now) _ _ _ _ _ _ _ _ _ _ (whole ∙ ap₂ (λ l m. l ++ m) (sym part) (sym rest)) (so_far_begun (g.met.K.ArcSink.laws c.args.sink.now) _ _ _ _ refl) c.in_ok-push_rows.ensures.given)
    c.push_to.ensures.given

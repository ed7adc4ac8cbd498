use Rattle.std.proofs.Common.{◌≡◌, [], length, sum, refl, sym, ap, ◌∙◌, arith}
use Rattle.sgb_vec.proofs.SumMembers.{Contains-bounded_sums, IsWithin-length}
use Rattle.sgb_gen.specs.inner.Descents.{arcs_under, down_from, front_of}
use Rattle.sgb_gen.proofs.ArcsInTurn.{given_as}
use Rattle.sgb_gen.proofs.DescentArcs.{begun-all}
use Rattle.sgb_gen.proofs.DescentSteps.{front-none}
use Rattle.sgb_gen.proofs.accepted.subsets.Subsets.push_earlier.Goals as goal

pub copy_of-tip-requires : goal.copy_of-tip-requires
copy_of-tip-requires g c =
    let s = c.args.self.now in
    let is = (Contains-bounded_sums s.sum.total s.sum.bounds c.args.x.now).0 c.requires.member in
    omega (arith, IsWithin-length s.sum.bounds c.args.x.now is.0, c.sizes-bounds.ensures.few)

pub push_from-requires-clause-begun : goal.push_from-requires-clause-begun
push_from-requires-clause-begun g c =
    let s = c.args.self.now in
    rw c.begun.ensures.value (begun-all s.sum c.sizes-bounds.result.now c.args.x.now _ _ _ c.requires.member c.sizes-bounds.ensures.same (ap sum (sym c.sizes-bounds.ensures.same)) refl refl c.begun.ensures.small)

pub push_from-requires-clause-all : goal.push_from-requires-clause-all
push_from-requires-clause-all g c =
    let s = c.args.self.now in
    let is = (Contains-bounded_sums s.sum.total s.sum.bounds c.args.x.now).0 c.requires.member in
    ap (λ b. b.left) c.begun.ensures.value ∙ sym is.1

pub returns-clause-given : goal.returns-clause-given
returns-clause-given g c =
    let s = c.args.self.now in
    let x = c.args.x.now in
    let bounds = c.sizes-bounds.result.now in
    let tip = c.as_mut_slice.result.now in
    let whole : arcs_under c.begun.result.size_bits (front_of tip x) c.begun.result.common x (down_from bounds x) ≡ arcs_under s.size_bits [] 0 x (down_from s.sum.bounds x) =
    ap (λ b. arcs_under b.size_bits (front_of tip x) b.common x (down_from bounds x)) c.begun.ensures.value
    ∙ ap (λ f. arcs_under s.size_bits f 0 x (down_from bounds x)) (front-none tip x (ap length (c.as_mut_slice.ensures.value ∙ c.copy_of-tip.ensures)))
    ∙ ap (λ bs. arcs_under s.size_bits [] 0 x (down_from bs x)) c.sizes-bounds.ensures.same in
    given_as (g.met.K.ArcSink.laws c.args.sink.now) _ _ _ _ _ _ _ whole c.push_from.ensures.given

use Rattle.std.proofs.Common.{rules, sum, refl, sym, ap, ◌∙◌, arith}
use Rattle.sgb_vec.proofs.SumMembers.{Contains-bounded_sums, IsWithin-length}
use Rattle.sgb_gen.proofs.ArcsInTurn.{given_as}
use Rattle.sgb_gen.proofs.DescentArcs.{begun-all}
use Rattle.sgb_gen.proofs.SubsetsLists.{list_by_walk}
use Rattle.sgb_gen.proofs.accepted.subsets.Subsets.push_all.Goals as goal

pub copy_of-tip-requires : goal.copy_of-tip-requires
copy_of-tip-requires g c =
    let s = c.args.self.now in
    let is = (Contains-bounded_sums s.sum.total s.sum.bounds c.args.x.now).0 c.requires.member in
    omega (arith, IsWithin-length s.sum.bounds c.args.x.now is.0, c.sizes-bounds.ensures.few)

pub push_both-requires-clause-begun : goal.push_both-requires-clause-begun
push_both-requires-clause-begun g c =
    let s = c.args.self.now in
    rw c.begun.ensures.value (begun-all s.sum c.sizes-bounds.result.now c.args.x.now _ _ _ c.requires.member c.sizes-bounds.ensures.same (ap sum (sym c.sizes-bounds.ensures.same)) refl refl c.begun.ensures.small)

pub push_both-requires-clause-all : goal.push_both-requires-clause-all
push_both-requires-clause-all g c =
    let s = c.args.self.now in
    let is = (Contains-bounded_sums s.sum.total s.sum.bounds c.args.x.now).0 c.requires.member in
    ap (λ b. b.left) c.begun.ensures.value ∙ sym is.1

pub returns-clause-given : goal.returns-clause-given
returns-clause-given g c =
    given_as (g.met.K.ArcSink.laws c.args.sink.now) _ _ _ _ _ _ _ (search (rules, list_by_walk)) c.push_both.ensures.given

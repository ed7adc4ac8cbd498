use Rattle.std.proofs.Common.{◌≡◌, Contains}
use Rattle.sgb_vec.proofs.RangeSteps.{after_it}
use Rattle.sgb_vec.proofs.vectors.Vectors.after.Goals as goal

pub invariant_of-result : goal.invariant_of-result
invariant_of-result g c =
    let members = g.F.Family.members c.args.family.now in
    let copy : c.unwrap-front.result.items ≡ c.args.vector.now = (rw c.unwrap-front.ensures at c.try_from.ensures).0 in
    let member : Contains members c.args.vector.now = c.holds.ensures.0 c.if-not-holds.false in
    (after_it members (g.met.F.Family.rising c.args.family.now) _ _ _ _ _ (rw copy member) c.next-more.ensures.found c.next-more.ensures.last c.last-some.ensures.found c.last-some.ensures.empty).0

pub returns-clause-after : goal.returns-clause-after
returns-clause-after g c =
    let members = g.F.Family.members c.args.family.now in
    let copy : c.unwrap-front.result.items ≡ c.args.vector.now = (rw c.unwrap-front.ensures at c.try_from.ensures).0 in
    let member : Contains members c.args.vector.now = c.holds.ensures.0 c.if-not-holds.false in
    rw (← copy)
    (after_it members (g.met.F.Family.rising c.args.family.now) _ _ _ _ _ (rw copy member) c.next-more.ensures.found c.next-more.ensures.last c.last-some.ensures.found c.last-some.ensures.empty).1

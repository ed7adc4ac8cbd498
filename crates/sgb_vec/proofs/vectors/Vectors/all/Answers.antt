use Rattle.sgb_vec.proofs.RangeSteps.{all_of_them, all_ends}
use Rattle.sgb_vec.proofs.vectors.Vectors.all.Goals as goal

pub invariant_of-result : goal.invariant_of-result
invariant_of-result g c = all_ends (g.F.Family.members c.args.family.now) (g.met.F.Family.rising c.args.family.now) _ _ _ _ c.first-more.ensures.found c.last-some.ensures.found c.last-some.ensures.empty

pub returns : goal.returns
returns g c = all_of_them (g.F.Family.members c.args.family.now) (g.met.F.Family.rising c.args.family.now) _ _ _ _ c.first-more.ensures.found c.first-more.ensures.empty c.last-some.ensures.found c.last-some.ensures.empty

use Rattle.std.proofs.Common.{rules, arith}
use Rattle.sgb_vec.proofs.RangeSteps.{back_among, back_goes, one_left, without_last}
use Rattle.sgb_vec.proofs.vectors.Vectors.retreat.Goals as goal

pub returns-then-eq-clause-rest : goal.returns-then-eq-clause-rest
returns-then-eq-clause-rest g c = grind (arith, one_left)

pub prev-more-requires-clause-member : goal.prev-more-requires-clause-member
prev-more-requires-clause-member g c = back_among _ (g.met.F.Family.rising c.self.inside.family.now) _ _ _ c.if-not-self.false c.self.invariant

pub invariant_of-self-2 : goal.invariant_of-self-2
invariant_of-self-2 g c = search (rules, back_goes)

pub returns-clause-rest : goal.returns-clause-rest
returns-clause-rest g c = search (rules, back_goes, without_last)

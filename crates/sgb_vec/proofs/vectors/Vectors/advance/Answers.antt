use Rattle.std.proofs.Common.{rules, arith}
use Rattle.sgb_vec.proofs.RangeSteps.{front_among, front_goes, one_left}
use Rattle.sgb_vec.proofs.vectors.Vectors.advance.Goals as goal

pub returns-then-eq-clause-rest : goal.returns-then-eq-clause-rest
returns-then-eq-clause-rest g c = grind (arith, one_left)

pub next-more-requires-clause-member : goal.next-more-requires-clause-member
next-more-requires-clause-member g c = front_among _ (g.met.F.Family.rising c.self.inside.family.now) _ _ _ c.if-not-self.false c.self.invariant

pub invariant_of-self-2 : goal.invariant_of-self-2
invariant_of-self-2 g c = search (rules, front_goes)

pub returns-clause-rest : goal.returns-clause-rest
returns-clause-rest g c = grind (arith, front_goes)

use Rattle.std.proofs.Common.{◌≡◌, ◌∙◌, ap, arith, eqb-true, eq-eqb}
use Rattle.sgb_vec.specs.Sums.{BoundedSum}
use Rattle.sgb_vec.proofs.SumMembers.{Contains-bounded_sums}
use Rattle.sgb_vec.proofs.sums.SumFamilyFamily.holds.Goals as goal

pub returns-then-each_within : goal.returns-then-each_within
returns-then-each_within c =
    let bounds : c.as_slice.result.now ≡ c.args.self.now.bounds = c.as_slice.ensures.value ∙ ap (λ (s : BoundedSum). s.bounds) c.self.view_is in
    let total : c.self.inside.total ≡ c.args.self.now.total = ap (λ (s : BoundedSum). s.total) c.self.view_is in
    let within = rw bounds at c.each_within.ensures in
    let means = Contains-bounded_sums c.args.self.now.total c.args.self.now.bounds c.args.vector.now in (
      λ yes. means.1 (within.0 c.if-each_within.true, omega (arith, eqb-true _ _ yes, c.total_of.ensures, c.from.ensures)),
      λ member. eq-eqb _ _ (omega (arith, (means.0 member).1, c.total_of.ensures, c.from.ensures)),
    )

pub returns-else-each_within : goal.returns-else-each_within
returns-else-each_within c =
    let bounds : c.as_slice.result.now ≡ c.args.self.now.bounds = c.as_slice.ensures.value ∙ ap (λ (s : BoundedSum). s.bounds) c.self.view_is in
    let within = rw bounds at c.each_within.ensures in
    let means = Contains-bounded_sums c.args.self.now.total c.args.self.now.bounds c.args.vector.now in (
      λ yes. absurd (cc (yes, c.if-each_within.false)),
      λ member. within.1 (means.0 member).0,
    )

use Rattle.std.proofs.Common.{◌≡◌, ◌≤◌, ◌∙◌, length, arith, ap}
use Rattle.sgb_vec.specs.Sums.{BoundedSum}
use Rattle.sgb_vec.proofs.FamilyVectors.{sum_members_are_vectors}
use Rattle.sgb_vec.proofs.sums.SumFamilyFamily.dims.Goals as goal

pub returns-clause-vectors : goal.returns-clause-vectors
returns-clause-vectors c =
    let bounds : c.as_slice.result.now ≡ c.args.self.now.bounds = c.as_slice.ensures.value ∙ ap (λ (s : BoundedSum). s.bounds) c.self.view_is in
    let few : length c.as_slice.result.now ≤ 251 = omega (arith, c.as_slice.ensures.fits) in
    rw (← bounds) (λ v. sum_members_are_vectors c.args.self.now.total c.as_slice.result.now v few c.count_of.ensures.small)

use Rattle.std.proofs.Common.{◌≡◌, ◌∙◌, ◌-◌, List, ℕ, slice_get, length, sym, ap}
use Rattle.sgb_vec.proofs.RangeSteps.{back_last, rest_and_last}
use Rattle.sgb_vec.proofs.vectors.VectorsDoubleEndedIterator.next_back.Goals as goal

pub returns-clause-steps : goal.returns-clause-steps
returns-clause-steps g c =
    let copy : c.unwrap-vector.result.items ≡ c.self.inside.back.items = (rw c.unwrap-vector.ensures at c.try_from.ensures).0 ∙ c.as_slice.ensures.value in
    let last = ap (λ (xs : List (List ℕ)). slice_get xs (length xs - 1)) (sym c.self.view_is) ∙ back_last _ (g.met.F.Family.rising c.self.inside.family.now) _ _ _ c.if-not-self.false c.self.invariant in
    rest_and_last _ _ _ _ last copy c.retreat-some.ensures.rest

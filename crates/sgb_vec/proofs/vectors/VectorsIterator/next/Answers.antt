use Rattle.std.proofs.Common.{◌≡◌, ◌∙◌, List, ℕ, slice_get, sym, ap}
use Rattle.sgb_vec.proofs.RangeSteps.{front_first, first_and_rest}
use Rattle.sgb_vec.proofs.vectors.VectorsIterator.next.Goals as goal

pub returns-clause-steps : goal.returns-clause-steps
returns-clause-steps g c =
    let copy : c.unwrap-vector.result.items ≡ c.self.inside.front.items = (rw c.unwrap-vector.ensures at c.try_from.ensures).0 ∙ c.as_slice.ensures.value in
    let first = ap (λ (xs : List (List ℕ)). slice_get xs 0) (sym c.self.view_is) ∙ front_first _ (g.met.F.Family.rising c.self.inside.family.now) _ _ _ c.if-not-self.false c.self.invariant in
    first_and_rest _ _ _ _ first copy c.advance-some.ensures.rest

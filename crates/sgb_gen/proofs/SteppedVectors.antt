-- Vectors in order, one found from that before or after it.
use Rattle.std.proofs.Common.{◌≡◌, ◌+◌, ◌-◌, ℕ, Bool, true, false, List, Some, sym, subst, arith}
use Rattle.std.specs.Bool.{OnTrue}
use Rattle.std.specs.List.{Contains, slice_get}
use Rattle.sgb_vec.specs.Lexicographic.{IsRising}
use Rattle.sgb_vec.specs.Order.{IsNext, IsPrevious}
use Rattle.sgb_gen.specs.VectorGraphs.{vertex_among}
use Rattle.sgb_gen.proofs.RisingVectors.{at_vertex}

module _ (vectors places : List (List ℕ)) (x : List ℕ) (own place : ℕ) (rising : IsRising vectors) (same : places ≡ vectors) (has : Contains vectors x)
    (found : Contains places x → own ≡ vertex_among places x) where
  -- x stands at its own place
  own_there : slice_get vectors own ≡ Some x
  own_there =
      let is = subst (λ (vs : List (List ℕ)). Contains vs x → own ≡ vertex_among vs x) same found in
      subst (λ i. slice_get vectors i ≡ Some x) (sym (is has)) (at_vertex vectors x rising has)

  -- and the one after it at the next
  pub next_there : (more : Bool) (w : List ℕ) → place ≡ own + 1 → OnTrue more (IsNext vectors x w) → OnTrue more (slice_get vectors place ≡ Some w)
  next_there true w after is = subst (λ i. slice_get vectors i ≡ Some w) (sym after) (is own own_there)
  next_there false w after is = tt

  -- the one before it at that before
  pub previous_there : (more : Bool) (w : List ℕ) → own ≡ place + 1 → OnTrue more (IsPrevious vectors x w) → OnTrue more (slice_get vectors place ≡ Some w)
  previous_there true w before is =
      let less : own - 1 ≡ place = omega (arith, before) in
      subst (λ i. slice_get vectors i ≡ Some w) less (is own own_there).1
  previous_there false w before is = tt

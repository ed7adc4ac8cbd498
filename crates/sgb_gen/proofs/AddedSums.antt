-- What functions of the numbers below one add to.
use Rattle.std.proofs.Common.{◌≡◌, ℕ, zero, suc, ◌+◌, ◌<◌, refl, ap₂, arith}
use Rattle.sgb_gen.specs.inner.SubsetsPairs.{added}

pub added-same : (n : ℕ) (f g : ℕ → ℕ) → ((i : ℕ) → i < n → f i ≡ g i) → added n f ≡ added n g
added-same zero f g same = refl
added-same (suc n) f g same = ap₂ (λ x y. x + y) (added-same n f g (λ i within. same i (omega (arith, within)))) (same n (omega arith))

pub added-zeros : (n : ℕ) (f : ℕ → ℕ) → ((i : ℕ) → i < n → f i ≡ 0) → added n f ≡ 0
added-zeros zero f none = refl
added-zeros (suc n) f none = omega (arith, added-zeros n f (λ i within. none i (omega (arith, within))), none n (omega arith))

-- the first number by itself
pub added-first : (n : ℕ) (f : ℕ → ℕ) → added (suc n) f ≡ f 0 + added n (λ i. f (suc i))
added-first zero f = omega arith
added-first (suc n) f = omega (arith, added-first n f)

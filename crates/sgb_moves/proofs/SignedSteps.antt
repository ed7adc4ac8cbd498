-- A number of steps and a step, both of 32 bits: what they come to fits 64 bits, also with a coordinate added.
use Rattle.std.proofs.Common.{◌≡◌, ℕ, suc, ◌*◌, ◌-◌, ◌^◌, ◌<◌, ◌≤◌, ℤ, pos, negsuc, ◌+ℤ◌, ◌*ℤ◌, Fits, FitsSigned, to_z, of_z, w32, w64, sym, subst, ap₂, neg_ℤ, arith}
use Rattle.std.specs.Int.Signed.{mag}
use Rattle.std.proofs.lemmas.Int.{ints, to_z-of_z}
use Rattle.std.proofs.lemmas.Nat.{mul-le}
use Rattle.std.proofs.Math.IntN.{pos-*ℤ-pos, pos-*ℤ-negsuc}

-- a coordinate with less
taken : (x m : ℕ) → x < 2 ^ 32 → m ≤ (2 ^ 32 - 1) * 2 ^ 31 → FitsSigned w64 (pos x +ℤ neg_ℤ (pos m))
taken x m low few = omega (arith, ints)

-- a coordinate and so many steps
within : (x l : ℕ) (t : ℤ) → x < 2 ^ 32 → l < 2 ^ 32 → mag t < 2 ^ 31 → FitsSigned w64 (pos x +ℤ pos l *ℤ t)
within x l (pos n) low few small = subst (λ z. FitsSigned w64 (pos x +ℤ z)) (sym (pos-*ℤ-pos l n)) (record { sfits = omega (arith, mul-le l n (2 ^ 32 - 1) (2 ^ 31 - 1) (omega arith) (omega arith)) })
within x l (negsuc n) low few small = subst (λ z. FitsSigned w64 (pos x +ℤ z)) (sym (pos-*ℤ-negsuc l n)) (taken x (l * suc n) low (mul-le l (suc n) (2 ^ 32 - 1) (2 ^ 31) (omega arith) (omega arith)))

module _ (a b : ℤ) (l : ℕ) (t : ℤ) (few : Fits w32 l) (small : FitsSigned w32 t) (is : a ≡ pos l) (so : b ≡ to_z w32 (of_z w32 t)) where
  factors : to_z w64 (of_z w64 a) *ℤ to_z w64 (of_z w64 b) ≡ pos l *ℤ t
  factors =
      let first : to_z w64 (of_z w64 a) ≡ pos l = omega (arith, ints) in
      let second : to_z w64 (of_z w64 b) ≡ t = omega (arith, ints) in
      ap₂ (λ y z. y *ℤ z) first second

  product : FitsSigned w64 (pos l *ℤ t)
  product = omega (arith, ints, within 0 l t (omega arith) few.fits small.sfits)

  pub product_fits : FitsSigned w64 (to_z w64 (of_z w64 a) *ℤ to_z w64 (of_z w64 b))
  product_fits = rw factors product

  pub product_is : to_z w64 (of_z w64 (to_z w64 (of_z w64 a) *ℤ to_z w64 (of_z w64 b))) ≡ pos l *ℤ t
  product_is = rw factors (to_z-of_z w64 (pos l *ℤ t) product)

  module _ (d : ℤ) (x : ℕ) (low : Fits w32 x) (at : d ≡ pos x) where
    parts : to_z w64 (of_z w64 d) +ℤ to_z w64 (of_z w64 (to_z w64 (of_z w64 a) *ℤ to_z w64 (of_z w64 b))) ≡ pos x +ℤ pos l *ℤ t
    parts =
        let first : to_z w64 (of_z w64 d) ≡ pos x = omega (arith, ints) in
        ap₂ (λ y z. y +ℤ z) first product_is

    sum : FitsSigned w64 (pos x +ℤ pos l *ℤ t)
    sum = within x l t low.fits few.fits small.sfits

    pub sum_fits : FitsSigned w64 (to_z w64 (of_z w64 d) +ℤ to_z w64 (of_z w64 (to_z w64 (of_z w64 a) *ℤ to_z w64 (of_z w64 b))))
    sum_fits = rw parts sum

    pub sum_is : to_z w64 (of_z w64 (to_z w64 (of_z w64 d) +ℤ to_z w64 (of_z w64 (to_z w64 (of_z w64 a) *ℤ to_z w64 (of_z w64 b))))) ≡ pos x +ℤ pos l *ℤ t
    sum_is = rw parts (to_z-of_z w64 (pos x +ℤ pos l *ℤ t) sum)

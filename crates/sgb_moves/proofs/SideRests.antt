-- What is left of a number of 64 bits by a side's size, which is one of 32 bits.
use Rattle.std.proofs.Common.{◌≡◌, ℕ, ◌^◌, ◌<◌, ℤ, pos, negsuc, nat_abs, Fits, to_z, of_z, w32, w64, ap, ap₂, ◌∙◌, arith}
use lib.Dec.{T}
use lib.Signed.{non_neg}
use Rattle.std.specs.Int.{IsNonNegative, IsNonZero, int_rem_euclid}
use Rattle.std.proofs.lemmas.Int.{ints}

-- a rest as it is read
read : (n : ℕ) (r : ℤ) → n < 2 ^ 32 → IsNonNegative r → nat_abs r < n → to_z w64 (of_z w64 r) ≡ pos (nat_abs r)
read n (pos k) few some less = omega (arith, ints)
read n (negsuc k) few some less = absurd some

module _ (n : ℕ) (a : ℤ) (some : 0 < n) (few : Fits w32 n) (is : a ≡ pos n) where
  itself : to_z w64 (of_z w64 a) ≡ pos n
  itself = omega (arith, ints)

  pub size_some : IsNonZero w64 (to_z w64 (of_z w64 a))
  size_some = rw itself some

  pub size_small : (P : Type 0) → of_z w64 (to_z w64 (of_z w64 a)) ≡ 18446744073709551615 → P → ⊥
  size_small P e p =
      let whole : n ≡ 18446744073709551615 = rw itself at e in
      omega (arith, few.fits)

  module _ (y z r : ℤ) (same : y ≡ z) (value : r ≡ int_rem_euclid y (to_z w64 (of_z w64 a))) (low : IsNonNegative r) (high : nat_abs r < nat_abs (to_z w64 (of_z w64 a))) where
    below : nat_abs r < n
    below = rw itself at high

    reads : to_z w64 (of_z w64 r) ≡ pos (nat_abs r)
    reads = read n r few.fits low below

    pub rest_fits : T (non_neg (to_z w64 (of_z w64 r))) × Fits w32 (nat_abs (to_z w64 (of_z w64 r)))
    rest_fits = rw reads (tt, record { fits = omega (arith, below, few.fits) })

    pub rest_is : nat_abs (to_z w64 (of_z w64 r)) ≡ nat_abs (int_rem_euclid z (pos n))
    rest_is = ap nat_abs reads ∙ ap nat_abs value ∙ ap₂ (λ u v. nat_abs (int_rem_euclid u v)) same itself

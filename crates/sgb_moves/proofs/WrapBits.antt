-- The bits of a number of 64 bits in two's complement.
use lib.Signed.{shr_z}
use lib.Bits.{bit_and}
use Rattle.std.proofs.Common.{◌≡◌, ℕ, ◌%◌, ◌^◌, ℤ, eqb, min, to_z, of_z, w64, FitsSigned, ap, ◌∙◌, arith}
use Rattle.std.proofs.Math.Nat.{div-eq_of_lt, pow-le-pow_right}
use Rattle.std.proofs.lemmas.Bool.{cases_lt}
use Rattle.std.proofs.lemmas.Bool.Decides.{nat_tests}
use Rattle.std.proofs.lemmas.Int.{to_z-of_z}
use Rattle.std.proofs.lemmas.Nat.{and_mask, shr_le}
use Rattle.sgb_moves.specs.Moves.{is_bit_set}

-- the lowest bit of a number, and of a negative one
low_bit : (n : ℕ) → eqb (bit_and n 1) 1 ≡ eqb (n % 2) 1
low_bit n = ap (λ m. eqb m 1) (and_mask n 1)

-- the code's test of bit k, of the number itself
bit_read : (wrap : ℤ) (k : ℕ) → FitsSigned w64 wrap → eqb (bit_and (of_z w64 (shr_z wrap (2 ^ (min k 63)))) 1) 1 ≡ is_bit_set wrap k
bit_read wrap k f = grind (arith, low_bit, min, eqb, shr_le, cases_lt, pow-le-pow_right, div-eq_of_lt, nat_tests)

-- and as it computes it
pub wraps-is : (wrap : ℤ) (k : ℕ) → FitsSigned w64 wrap → eqb (bit_and (of_z w64 (shr_z (to_z w64 (of_z w64 wrap)) (2 ^ (min k 63)))) 1) 1 ≡ is_bit_set wrap k
wraps-is wrap k f = ap (λ z. eqb (bit_and (of_z w64 (shr_z z (2 ^ (min k 63)))) 1) 1) (to_z-of_z w64 wrap f) ∙ bit_read wrap k f

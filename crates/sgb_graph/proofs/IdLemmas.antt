-- Texts and numbers that may stand in an id.
use Rattle.sgb_vec.proofs.Common.{ℕ, ◌+◌, ◌*◌, ◌^◌, ◌<◌, ◌≤◌, List, [], ◌∷◌, ◌++◌, length, decimal, ℤ, pos, negsuc, suc, arith, refl, signed_decimal, All, length_signed_le, All-cons, All-head, All-tail, All-append, length-append, nat_abs}
use lib.Signed.{mag}
use Rattle.sgb_vec.specs.Names.{IsTextByte}
use Rattle.sgb_vec.proofs.VectorNames.{decimal_is_text}
use Rattle.sgb_graph.specs.Ids.{IsId}
use Rattle.sgb_graph.specs.IdTexts.{numbers_text}
use Rattle.sgb_vec.specs.Limits.{most_vertices}

-- a number with its sign may stand in an id
number_passes : (z : ℤ) → mag z < 2 ^ 63 → All IsTextByte (signed_decimal z)
number_passes (pos n) h = decimal_is_text n (omega arith)
number_passes (negsuc n) h =
    All-cons IsTextByte 45 (decimal (suc n)) refl (decimal_is_text (suc n) (omega arith))

-- a number of 64 bits takes at most 20 bytes
pub length-number : (z : ℤ) → mag z < 2 ^ 63 → length (signed_decimal z) ≤ 20
length-number z h = length_signed_le 19 z (omega arith) h

-- an id with a number after it
pub IsId-push_number : (bytes : List ℕ) (z : ℤ) → IsId bytes → mag z < 2 ^ 63 → length bytes + 20 ≤ 160 → IsId (bytes ++ signed_decimal z)
IsId-push_number bytes z id small room = record {
  short = omega (arith, length-append bytes (signed_decimal z), length-number z small);
  printable = All-append IsTextByte bytes (signed_decimal z) id.printable (number_passes z small);
}

-- a number of at most 1,000,000,000 takes at most 11 bytes
length-small_number : (z : ℤ) → nat_abs z ≤ most_vertices → length (signed_decimal z) ≤ 11
length-small_number (pos n) h = length_signed_le 10 (pos n) (omega arith) (omega (arith, h))
length-small_number (negsuc n) h = length_signed_le 10 (negsuc n) (omega arith) (omega (arith, h))

-- such numbers take at most 12 bytes each, with the comma after it
pub length-small_numbers : (numbers : List ℤ) → All (λ z. nat_abs z ≤ most_vertices) numbers → length (numbers_text numbers) ≤ 12 * length numbers
length-small_numbers [] h = omega arith
length-small_numbers (z ∷ numbers) h = grind (arith, All-tail, length-small_number, All-head, length-append, length-small_numbers numbers (All-tail (λ x. nat_abs x ≤ most_vertices) z numbers h))

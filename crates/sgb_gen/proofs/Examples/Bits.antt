-- Bits of wrap, where a piece is not, common sizes, pairs of places and refusals.
use Rattle.std.specs.Prelude.{◌≡◌, pos, negsuc, true, false, [], ◌∷◌, None, Err, refl}
use Rattle.std.proofs.Common.{inr}
use Rattle.sgb_vec.specs.declared.panics.Panic.TheVariants.{NoRoom, Bad}
use Rattle.sgb_gen.specs.Generators.{IsLocalOf}
use Rattle.sgb_moves.specs.Moves.{is_bit_set, is_elsewhere, reach, sides_of}
use Rattle.sgb_gen.specs.Simplexes.{pairs_of_places}
use Rattle.sgb_gen.specs.Subsets.{common_size}

-- 12 is 1100 in binary, and -13 is ..10011
pub bits : (is_bit_set (pos 12) 1 ≡ false) × (is_bit_set (pos 12) 2 ≡ true) × (is_bit_set (pos 12) 3 ≡ true)
    × (is_bit_set (negsuc 12) 1 ≡ true) × (is_bit_set (negsuc 12) 2 ≡ false) × (is_bit_set (negsuc 12) 3 ≡ false)
bits = (refl, refl, refl, refl, refl, refl)

-- no place is not elsewhere, and a leaper does not go there
pub nowhere : (is_elsewhere (0 ∷ []) None ≡ false) × (reach (sides_of (2 ∷ []) (pos 0)) (pos 1) (1 ∷ []) (pos 1 ∷ []) ≡ [])
nowhere = (refl, refl)

pub nothing_in_common : common_size (1 ∷ []) [] ≡ 0
nothing_in_common = refl

pub pairs_of_three : pairs_of_places 3 ≡ record { lower = 0; higher = 1 } ∷ record { lower = 0; higher = 2 } ∷ record { lower = 1; higher = 2 } ∷ []
pairs_of_three = refl

pub refused_for_memory : IsLocalOf (Err Bad) (Err NoRoom)
refused_for_memory = inr refl

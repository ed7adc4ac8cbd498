-- The short names as the parameters that they stand for, evaluated.
use Rattle.std.specs.Prelude.{◌≡◌, ℤ, pos, negsuc, Bool, true, false, refl}
use Rattle.sgb_gen.specs.Shorthands.{circuit, complete, cycle, disjoint_subsets, empty, petersen, transitive}
use Rattle.sgb_gen.specs.declared.params.BoardParams.{BoardParams}
use Rattle.sgb_gen.specs.declared.params.SubsetsParams.{SubsetsParams}

-- board(7,0,0,0,piece,wrap,directed)
abbrev seven : ℤ → ℤ → Bool → BoardParams
seven piece wrap directed = record { n1 = pos 7; n2 = pos 0; n3 = pos 0; n4 = pos 0; piece = piece; wrap = wrap; directed = directed }

pub lines :
    (complete (pos 7) ≡ seven (negsuc 0) (pos 0) false) × (transitive (pos 7) ≡ seven (negsuc 0) (pos 0) true)
    × (empty (pos 7) ≡ seven (pos 2) (pos 0) false) × (circuit (pos 7) ≡ seven (pos 1) (pos 1) false)
    × (cycle (pos 7) ≡ seven (pos 1) (pos 1) true)
lines = (refl, refl, refl, refl, refl)

-- subsets(k,1,1-n,0,0,0,0x1,0)
abbrev disjoint : ℤ → ℤ → SubsetsParams
disjoint k n1 = record { n = k; n0 = pos 1; n1 = n1; n2 = pos 0; n3 = pos 0; n4 = pos 0; size_bits = 1; directed = false }

pub subsets : (disjoint_subsets (pos 7) (pos 3) ≡ disjoint (pos 3) (negsuc 5)) × (petersen ≡ disjoint (pos 2) (negsuc 3))
subsets = (refl, refl)

-- What is accepted and what is refused, evaluated: which parameter tells.
use Rattle.std.specs.Prelude.{◌≡◌, ◌<◌, ℕ, ℤ, pos, negsuc, false, List, [], ◌∷◌, Ok, refl}
use Rattle.std.proofs.Common.{arith}
use Rattle.sgb_vec.specs.Boxes.{box}
use Rattle.sgb_vec.specs.Sizes.{repeated}
use Rattle.sgb_vec.specs.Sums.{bounded_sums, has_great_count}
use Rattle.sgb_vec.specs.declared.panics.Panic.TheVariants.{Bad, VeryBad}
use Rattle.sgb_gen.specs.Generators.{IsAcceptedAtOnce, IsGeneratorRefused}
use Rattle.sgb_gen.specs.Simplexes.{accepted_simplex}
use Rattle.sgb_gen.specs.Subsets.{accepted_subsets}
use Rattle.sgb_gen.specs.declared.params.BoardParams.{BoardParams}
use Rattle.sgb_gen.specs.declared.params.Generator.TheVariants as generator
use Rattle.sgb_gen.specs.declared.params.SimplexParams.{SimplexParams}
use Rattle.sgb_gen.specs.declared.params.SubsetsParams.{SubsetsParams}

-- simplex(n,n0,n1,n2,n3,n4,0), and subsets(n,n0,n1,n2,n3,n4,0x6,0)
abbrev simplex : ℤ → ℤ → ℤ → ℤ → ℤ → ℤ → SimplexParams
simplex n n0 n1 n2 n3 n4 = record { n = n; n0 = n0; n1 = n1; n2 = n2; n3 = n3; n4 = n4; directed = false }

abbrev subsets : ℤ → ℤ → ℤ → ℤ → ℤ → ℤ → SubsetsParams
subsets n n0 n1 n2 n3 n4 = record { n = n; n0 = n0; n1 = n1; n2 = n2; n3 = n3; n4 = n4; size_bits = 6; directed = false }

-- ---- accepted

-- multisets of two of 1 + 2 + 1 + 2 elements
abbrev names : List ℤ
names = pos 2 ∷ pos 1 ∷ pos 2 ∷ pos 1 ∷ pos 2 ∷ pos 0 ∷ []

abbrev bounds : List ℕ
bounds = 1 ∷ 2 ∷ 1 ∷ 2 ∷ []

pub accepted_as_simplex : accepted_simplex (simplex (pos 2) (pos 1) (pos 2) (pos 1) (pos 2) (pos 0))
    ≡ Ok (record { params = names; sum = record { total = 2; bounds = bounds }; directed = false })
unfolding repeated has_great_count bounded_sums box
accepted_as_simplex = refl

pub accepted_as_subsets : accepted_subsets (subsets (pos 2) (pos 1) (pos 2) (pos 1) (pos 2) (pos 0))
    ≡ Ok (record { params = names; sum = record { total = 2; bounds = bounds }; size_bits = 6; directed = false })
unfolding repeated has_great_count bounded_sums box
accepted_as_subsets = refl

-- ---- refused: a sum above 1,000,000,000, and 252 bounds, asked for by n0, n1, n2 and n3

pub simplexes_refused :
    IsGeneratorRefused (generator.Simplex (simplex (pos 1_000_000_001) (pos 1) (pos 0) (pos 0) (pos 0) (pos 0))) VeryBad
    × IsGeneratorRefused (generator.Simplex (simplex (pos 1) (negsuc 250) (pos 0) (pos 0) (pos 0) (pos 0))) Bad
    × IsGeneratorRefused (generator.Simplex (simplex (pos 1) (pos 1) (negsuc 250) (pos 0) (pos 0) (pos 0))) Bad
    × IsGeneratorRefused (generator.Simplex (simplex (pos 1) (pos 1) (pos 1) (negsuc 250) (pos 0) (pos 0))) Bad
    × IsGeneratorRefused (generator.Simplex (simplex (pos 1) (pos 1) (pos 1) (pos 1) (negsuc 250) (pos 0))) Bad
unfolding repeated
simplexes_refused = (refl, refl, refl, refl, refl)

pub subsets_refused :
    IsGeneratorRefused (generator.Subsets (subsets (pos 1_000_000_001) (pos 1) (pos 0) (pos 0) (pos 0) (pos 0))) VeryBad
    × IsGeneratorRefused (generator.Subsets (subsets (pos 1) (negsuc 250) (pos 0) (pos 0) (pos 0) (pos 0))) Bad
    × IsGeneratorRefused (generator.Subsets (subsets (pos 1) (pos 1) (negsuc 250) (pos 0) (pos 0) (pos 0))) Bad
    × IsGeneratorRefused (generator.Subsets (subsets (pos 1) (pos 1) (pos 1) (negsuc 250) (pos 0) (pos 0))) Bad
    × IsGeneratorRefused (generator.Subsets (subsets (pos 1) (pos 1) (pos 1) (pos 1) (negsuc 250) (pos 0))) Bad
unfolding repeated
subsets_refused = (refl, refl, refl, refl, refl)

-- ---- without memory: one bound, and what is refused; not two bounds, nor the three of an n0 of 0, whatever n1 is

pub one_bound : IsAcceptedAtOnce (generator.Simplex (simplex (pos 2) (pos 1) (pos 0) (pos 1) (pos 0) (pos 0)))
    × IsAcceptedAtOnce (generator.Subsets (subsets (pos 2) (pos 1) (pos 0) (pos 1) (pos 0) (pos 0)))
unfolding repeated
one_bound = (omega arith, omega arith)

pub two_bounds : IsAcceptedAtOnce (generator.Simplex (simplex (pos 2) (pos 1) (pos 1) (pos 0) (pos 0) (pos 0))) → ⊥
unfolding repeated
two_bounds is = let below : 2 < 2 = is in absurd (omega (arith, below))

pub three_bounds : IsAcceptedAtOnce (generator.Simplex (simplex (pos 2) (pos 0) (pos 1) (pos 0) (pos 0) (pos 0))) → ⊥
unfolding repeated
three_bounds is = let below : 3 < 2 = is in absurd (omega (arith, below))

pub two_bounds_of_subsets : IsAcceptedAtOnce (generator.Subsets (subsets (pos 2) (pos 1) (pos 1) (pos 0) (pos 0) (pos 0))) → ⊥
unfolding repeated
two_bounds_of_subsets is = let below : 2 < 2 = is in absurd (omega (arith, below))

pub three_bounds_of_subsets : IsAcceptedAtOnce (generator.Subsets (subsets (pos 2) (pos 0) (pos 1) (pos 0) (pos 0) (pos 0))) → ⊥
unfolding repeated
three_bounds_of_subsets is = let below : 3 < 2 = is in absurd (omega (arith, below))

pub refused_at_once : IsAcceptedAtOnce (generator.Simplex (simplex (pos 1) (pos 1) (pos 1) (negsuc 250) (pos 0) (pos 0)))
    × IsAcceptedAtOnce (generator.Simplex (simplex (pos 1) (pos 1) (pos 1) (pos 1) (negsuc 250) (pos 0)))
    × IsAcceptedAtOnce (generator.Subsets (subsets (pos 1) (pos 1) (pos 1) (negsuc 250) (pos 0) (pos 0)))
    × IsAcceptedAtOnce (generator.Subsets (subsets (pos 1) (pos 1) (pos 1) (pos 1) (negsuc 250) (pos 0)))
unfolding repeated
refused_at_once = (tt, tt, tt, tt)

pub boards_at_once : (p : BoardParams) → IsAcceptedAtOnce (generator.Board p)
boards_at_once p = tt

-- What the laws of the generators say of single cases: each fact comes from its law alone.
use Rattle.std.specs.Prelude.{◌≡◌, ◌<◌, ◌+◌, ◌*◌, ◌&&◌, ℕ, ℤ, pos, negsuc, nat_abs, nat_lt, true, false, List, [], ◌∷◌, sum, sum_by, Some, Contains, refl}
use Rattle.std.proofs.Common.{arith, subst}
use Rattle.std.proofs.lemmas.Bool.Decides.{nat_tests}
use Rattle.sgb_vec.specs.Boxes.{box}
use Rattle.sgb_vec.specs.Lexicographic.{IsBelow, IsWithin}
use Rattle.sgb_moves.specs.Displacements.{displacements, vectors_of_norm}
use Rattle.sgb_moves.specs.Moves.{Side, is_elsewhere, place, rider_reach, sides_of}
use Rattle.sgb_gen.specs.inner.Laws.{DisplacementsHaveTheirNorm, MovesStayOnBoard, RidersStop, ShiftsStayInSum}

-- the last displacement of a piece of 5 in two dimensions, (2,-1), has the squares 4 and 1
pub norm_of_last : DisplacementsHaveTheirNorm → sum_by (λ x. nat_abs x * nat_abs x) (pos 2 ∷ negsuc 0 ∷ []) ≡ 5
unfolding displacements vectors_of_norm box
norm_of_last law = let below : 3 < 4 = omega arith in law 5 2 3 [] below

-- and each displacement of a piece of 0 has none
pub norm_of_each : DisplacementsHaveTheirNorm → (t : List ℤ) → Contains (displacements 0 3) t → sum_by (λ x. nat_abs x * nat_abs x) t ≡ 0
norm_of_each law t there = subst (λ u. sum_by (λ x. nat_abs x * nat_abs x) u ≡ 0) there.2 (law 0 3 there.0 t there.1)

-- a side of three places that wraps around
abbrev around : List Side
around = record { size = 3; wraps = true } ∷ []

-- whatever its step, a rider has stopped after three of them
pub stopped_after_three : RidersStop → (x : ℕ) (step : ℤ) → x < 3 → is_elsewhere (x ∷ []) (place around (x ∷ []) (step ∷ []) 3) ≡ false
stopped_after_three law x step below = law.stops around (x ∷ []) (step ∷ []) (below, tt)

-- by 1 from 0 it goes one step, and no three
pub goes_one : RidersStop → Contains (rider_reach around (0 ∷ []) (pos 1 ∷ [])) 1
goes_one law = (law.lengths around (0 ∷ []) (pos 1 ∷ []) 1 (omega arith, tt)).1 (omega arith, λ k low high. elsewhere k (omega arith))
  where
    elsewhere : (k : ℕ) → 1 ≡ k → is_elsewhere (0 ∷ []) (place around (0 ∷ []) (pos 1 ∷ []) k) ≡ true
    elsewhere k one = subst (λ j. is_elsewhere (0 ∷ []) (place around (0 ∷ []) (pos 1 ∷ []) j) ≡ true) one refl

pub goes_no_three : RidersStop → Contains (rider_reach around (0 ∷ []) (pos 1 ∷ [])) 3 → ⊥
goes_no_three law goes =
    let passed = (law.lengths around (0 ∷ []) (pos 1 ∷ []) 3 (omega arith, tt)).0 goes in
    let home : false ≡ true = passed.1 3 (omega arith) (omega arith) in
    absurd cc

-- on a board of 3 by 4 whose second side wraps around, no number of steps leads out of it
pub stays_within : MovesStayOnBoard → (l : ℕ) (y : List ℕ) → place (sides_of (3 ∷ 4 ∷ []) (pos 2)) (0 ∷ 0 ∷ []) (pos 1 ∷ negsuc 0 ∷ []) l ≡ Some y → IsBelow y (3 ∷ 4 ∷ [])
stays_within law l y leads = law (sides_of (3 ∷ 4 ∷ []) (pos 2)) (0 ∷ 0 ∷ []) (pos 1 ∷ negsuc 0 ∷ []) l y (omega arith, (omega arith, tt)) leads

-- a unit goes from 5 to y, which has room below 9
pub unit_shifted : ShiftsStayInSum → (y : ℕ) → y < 9 → IsWithin (4 ∷ (y + 1) ∷ []) (5 ∷ 9 ∷ []) × (sum (4 ∷ (y + 1) ∷ []) ≡ sum (5 ∷ y ∷ []))
unit_shifted law y room = law (5 ∷ 9 ∷ []) (5 ∷ y ∷ []) (record { lower = 0; higher = 1 }) (omega arith) (omega arith) has_room (omega arith, (omega arith, tt))
  where
    has_room : (nat_lt 0 5 && nat_lt y 9) ≡ true
    has_room = grind (arith, nat_tests)

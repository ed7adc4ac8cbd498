-- Laws of displacements, moves and shifts, as their clauses say them: examples follow from these alone.
use Rattle.std.specs.Prelude.{◌≡◌, ◌↔◌, ◌<◌, ◌≤◌, ◌*◌, ℕ, ℤ, nat_abs, true, false, List, length, map, sum, sum_by, All, Some, Contains}
use Rattle.sgb_vec.specs.Lexicographic.{IsBelow, IsWithin}
use Rattle.sgb_moves.specs.Displacements.{displacements}
use Rattle.sgb_moves.specs.Moves.{Side, is_elsewhere, place, places_count, rider_reach}
use Rattle.sgb_gen.specs.Simplexes.{Places, can_move_unit, unit_moved}

-- the squares of each displacement add to p
abbrev pub DisplacementsHaveTheirNorm : Type 0
DisplacementsHaveTheirNorm =
    (p d : ℕ) → All (λ t. sum_by (λ x. nat_abs x * nat_abs x) t ≡ p) (displacements p d)

-- a rider from a place x of the board always stops, after as many steps as there are places at the latest; and
-- its lengths are those l from 1 on where at each length up to l the place exists and is not x
pub record RidersStop : Type 0 where
  pub stops : (sides : List Side) (x : List ℕ) (t : List ℤ) → IsBelow x (map (λ s. s.size) sides)
      → is_elsewhere x (place sides x t (places_count sides)) ≡ false
  pub lengths : (sides : List Side) (x : List ℕ) (t : List ℤ) (l : ℕ) → IsBelow x (map (λ s. s.size) sides)
      → Contains (rider_reach sides x t) l ↔ (1 ≤ l) × ((k : ℕ) → 1 ≤ k → k ≤ l → is_elsewhere x (place sides x t k) ≡ true)

-- from a place of the board each move leads to a place of the board
abbrev pub MovesStayOnBoard : Type 0
MovesStayOnBoard = (sides : List Side) (x : List ℕ) (t : List ℤ) (l : ℕ) (y : List ℕ)
    → IsBelow x (map (λ s. s.size) sides) → place sides x t l ≡ Some y → IsBelow y (map (λ s. s.size) sides)

-- a unit that goes to a higher place leaves the vector within its bounds, and its sum as it is
abbrev pub ShiftsStayInSum : Type 0
ShiftsStayInSum = (bounds v : List ℕ) (at : Places) → at.lower < at.higher → at.higher < length v
    → can_move_unit bounds v at.lower at.higher ≡ true → IsWithin v bounds
    → IsWithin (unit_moved v at.lower at.higher) bounds × (sum (unit_moved v at.lower at.higher) ≡ sum v)

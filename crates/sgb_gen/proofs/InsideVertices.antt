-- Vertices from which no side is near: moves of length 1 lead to places of the board.
use Rattle.std.proofs.Common.{◌≡◌, ℕ, zero, suc, ◌+◌, ◌<◌, ◌≤◌, ℤ, pos, negsuc, neg_ℤ, ◌+ℤ◌, ◌*ℤ◌, nat_abs, Bool, true, ◌&&◌, List, [], ◌∷◌, length, get_or, refl, ap₂, arith}
use Rattle.std.specs.List.{All}
use Rattle.std.specs.Option.{is_some}
use Rattle.std.proofs.lemmas.Int.{ints}
use Rattle.std.proofs.lemmas.List.{length-map}
use Rattle.std.proofs.lemmas.List.Elements.{All-map}
use Rattle.sgb_moves.specs.MovedCoordinates.{parts_from}
use Rattle.sgb_moves.specs.Moves.{coordinate_on, is_bit_set, opposite}
use Rattle.sgb_moves.specs.inner.MovedCoordinates.{IsInside, StayAtOne, parts_stay}
use Rattle.sgb_moves.proofs.BoundsSoFar.{on_side}
use Rattle.sgb_moves.proofs.NextSignings.{size-neg}

-- a coordinate that is far enough from both ends of its side
side_inside : (w : Bool) (n x d : ℕ) (a : ℤ) → nat_abs a ≤ d → d ≤ x → x + d < n → is_some (coordinate_on (record { size = n; wraps = w }) (pos x +ℤ pos 1 *ℤ a)) ≡ true
side_inside w n x d a small behind ahead = grind (arith, ints, on_side, negsuc)

-- no entry is greater than this
abbrev AreWithin : ℕ → List ℤ → Type 0
AreWithin d t = All (λ e. nat_abs e ≤ d) t

-- nor is one of the opposite
pub opposite_within : (d : ℕ) (t : List ℤ) → AreWithin d t → AreWithin d (opposite t)
opposite_within d t small = All-map (λ e. nat_abs e ≤ d) neg_ℤ t (λ j e h. omega (arith, size-neg (get_or t j e), small j e h))

module _ (sizes : List ℕ) (wrap : ℤ) (x : List ℕ) (d : ℕ) (inside : IsInside d sizes x) where
  one_inside : (k : ℕ) (a : ℤ) → k < length sizes → nat_abs a ≤ d
      → is_some (coordinate_on (record { size = get_or sizes k 0; wraps = is_bit_set wrap k }) (pos (get_or x k 0) +ℤ pos 1 *ℤ a)) ≡ true
  one_inside k a within small = grind (arith, side_inside)

  parts_inside : (t : List ℤ) (k : ℕ) → k + length t ≤ length sizes → AreWithin d t → parts_stay sizes wrap x 1 (parts_from k t) ≡ true
  parts_inside [] k within small = refl
  parts_inside (pos zero ∷ t) k within small = parts_inside t (k + 1) (omega (arith, within)) (λ j e h. small (suc j) e (omega (arith, h)))
  parts_inside (pos (suc c) ∷ t) k within small =
      ap₂ (λ a b. a && b) (one_inside k (pos (suc c)) (omega (arith, within)) (small 0 (pos 0) (omega arith)))
      (parts_inside t (k + 1) (omega (arith, within)) (λ j e h. small (suc j) e (omega (arith, h))))
  parts_inside (negsuc c ∷ t) k within small =
      ap₂ (λ a b. a && b) (one_inside k (negsuc c) (omega (arith, within)) (small 0 (pos 0) (omega arith)))
      (parts_inside t (k + 1) (omega (arith, within)) (λ j e h. small (suc j) e (omega (arith, h))))

  -- so a displacement of such entries and its opposite lead to places
  pub stay_inside : (t : List ℤ) → length t ≡ length sizes → AreWithin d t → StayAtOne sizes wrap x t
  stay_inside t long small = grind (arith, parts_inside, length-map, opposite_within)

-- Where a move on a board leads: to a place of the board.
use Rattle.std.proofs.Common.{◌≡◌, ℕ, ◌<◌, ℤ, pos, ◌+ℤ◌, ◌*ℤ◌, nat_abs, Bool, cond, ltb, List, [], ◌∷◌, map, Option, Some, arith}
use Rattle.std.specs.Int.{int_rem_euclid}
use Rattle.std.proofs.lemmas.Bool.{cases_lt, cond-true, cond-false, lt-ltb, le-ltb}
use Rattle.std.proofs.lemmas.Nat.{mod_below}
use Rattle.sgb_vec.specs.Lexicographic.{IsBelow}
use Rattle.sgb_moves.specs.Moves.{Side, within_size, coordinate_on, in_front, place}

-- a coordinate on a side is below its size
chosen_below : (wraps : Bool) (n : ℕ) (y : ℤ) (c : ℕ) → 0 < n → cond wraps (Some (nat_abs (int_rem_euclid y (pos n)))) (within_size n y) ≡ Some c → c < n
chosen_below wraps n y c h e = grind (arith, nat_abs, mod_below, cases_lt, cond-true, ltb, lt-ltb, cond-false, le-ltb)

-- a vector in whose front a coordinate stands
in_front-below : (o : Option ℕ) (p : Option (List ℕ)) (n : ℕ) (sizes y : List ℕ) → in_front o p ≡ Some y → ((c : ℕ) → o ≡ Some c → c < n) → ((v : List ℕ) → p ≡ Some v → IsBelow v sizes) → IsBelow y (n ∷ sizes)
in_front-below o p n sizes y e first rest = grind (arith)

-- from a place of the board a move leads to a place of the board
pub place-below : (sides : List Side) (x : List ℕ) (t : List ℤ) (l : ℕ) (y : List ℕ) → IsBelow x (map (λ s. s.size) sides) → place sides x t l ≡ Some y → IsBelow y (map (λ s. s.size) sides)
place-below [] x t l y b e = grind (arith)
place-below (s ∷ sides) [] t l y b e = absurd b
place-below (s ∷ sides) (z ∷ x) [] l y b e = absurd (cc)
place-below (s ∷ sides) (z ∷ x) (u ∷ t) l y b e =
    let some : 0 < s.size = omega (arith, b.0) in
    in_front-below (coordinate_on s (pos z +ℤ pos l *ℤ u)) (place sides x t l) s.size (map (λ r. r.size) sides) y e
    (λ c f. chosen_below s.wraps s.size (pos z +ℤ pos l *ℤ u) c some f)
    (λ v f. place-below sides x t l v b.1 f)

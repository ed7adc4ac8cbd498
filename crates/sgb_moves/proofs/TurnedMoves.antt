-- Moves turned back: from where a move leads, the opposite displacement leads back through the same places.
use Rattle.std.proofs.Common.{◌≡◌, ◌↔◌, ℕ, zero, suc, ◌+◌, ◌-◌, ◌*◌, ◌/◌, ◌<◌, ◌≤◌, ◌≢◌, ℤ, pos, negsuc, ◌+ℤ◌, ◌*ℤ◌, neg_ℤ, nat_abs, Bool, true, false, not, cond, ltb, List, [], ◌∷◌, map, Option, Some, refl, sym, ap, ap₂, subst, ◌∙◌, arith, true≢false, rules}
use Rattle.std.proofs.Math.IntN.{+ℤ_idr, zero-*ℤ, neg_ℤ-neg_ℤ}
use Rattle.std.proofs.Math.Nat.{mod-eq_of_lt}
use Rattle.std.specs.Cmp.Lexicographic.{bytes_decides}
use Rattle.std.specs.Int.{int_rem_euclid}
use Rattle.std.proofs.lemmas.Bool.{cases_Bool, cases_lt, cond-true, cond-false, lt-ltb, le-ltb}
use Rattle.std.proofs.lemmas.Int.{ints, int_rem_euclid_is}
use Rattle.std.proofs.lemmas.Nat.{mul-le}
use Rattle.sgb_vec.specs.Lexicographic.{IsBelow}
use Rattle.sgb_moves.specs.Moves.{Side, within_size, coordinate_on, in_front, place, is_elsewhere, opposite, LeadsTo}
use Rattle.sgb_moves.specs.VectorMoves.{same_vector}
use Rattle.sgb_moves.proofs.Riders.{Contains-rider_reach}

-- ---- numbers modulo a size

-- two numbers that differ by a multiple of n
abbrev AreAlike : ℕ → ℤ → ℤ → Type 0
AreAlike n z w = (i : ℕ) × (j : ℕ) × (z +ℤ pos (i * n) ≡ w +ℤ pos (j * n))

-- each number is below some multiple of n
abbrev IsLifted : ℕ → ℤ → Type 0
IsLifted n z = (i : ℕ) × (m : ℕ) × (z +ℤ pos (i * n) ≡ pos m)

lifted : (n : ℕ) (z : ℤ) → 0 < n → IsLifted n z
lifted n (pos a) h = (0, a, omega (arith, ints))
lifted n (negsuc a) h =
    let more : suc a ≤ suc a * n = omega (arith, mul-le (suc a) 1 (suc a) n (omega arith) h) in
    (suc a, suc a * n - suc a, omega (arith, ints, more))

-- they leave the same
alike-rem : (n : ℕ) (z w : ℤ) → 0 < n → AreAlike n z w → int_rem_euclid z (pos n) ≡ int_rem_euclid w (pos n)
alike-rem n z w h (i, j, e) =
    let (k, m, up) = lifted n z h in
    let one : z +ℤ pos ((i + k) * n) ≡ pos (m + i * n) = omega (arith, ints, up) in
    let two : w +ℤ pos ((j + k) * n) ≡ pos (m + i * n) = omega (arith, ints, up, e) in
    cc (int_rem_euclid_is z (pos n) n (i + k) (m + i * n) h refl one, int_rem_euclid_is w (pos n) n (j + k) (m + i * n) h refl two)

-- what is left of a number is like it
alike-left : (n : ℕ) (z : ℤ) → 0 < n → AreAlike n (pos (nat_abs (int_rem_euclid z (pos n)))) z
alike-left n (pos a) h = (a / n, 0, omega (arith, ints))
alike-left n (negsuc a) h = (0, a / n + 1, omega (arith, ints))

alike-moved : (n : ℕ) (z w u : ℤ) → AreAlike n z w → AreAlike n (z +ℤ u) (w +ℤ u)
alike-moved n z w u (i, j, e) = (i, j, omega (arith, ints, e))

-- a step from what is left of z leaves what one from z leaves
pub rem-moved : (n : ℕ) (z u : ℤ) → 0 < n → nat_abs (int_rem_euclid (pos (nat_abs (int_rem_euclid z (pos n))) +ℤ u) (pos n)) ≡ nat_abs (int_rem_euclid (z +ℤ u) (pos n))
rem-moved n z u h =
    let left = pos (nat_abs (int_rem_euclid z (pos n))) in
    ap nat_abs (alike-rem n (left +ℤ u) (z +ℤ u) h (alike-moved n left z u (alike-left n z h)))

-- b steps back of a + b
pub back : (z u : ℤ) (a b : ℕ) → (z +ℤ pos (a + b) *ℤ u) +ℤ pos b *ℤ neg_ℤ u ≡ z +ℤ pos a *ℤ u
back z u a b = grind (arith, ints)

-- ---- the opposite

pub opposite_twice : (t : List ℤ) → opposite (opposite t) ≡ t
opposite_twice [] = refl
opposite_twice (u ∷ t) = rw (neg_ℤ-neg_ℤ u, opposite_twice t) refl

-- ---- places

-- what stands in front, and what after it
pub in_front-parts : (o : Option ℕ) (p : Option (List ℕ)) (x : ℕ) (v : List ℕ) → in_front o p ≡ Some (x ∷ v) → (o ≡ Some x) × (p ≡ Some v)
in_front-parts o p x v e = grind (arith)

-- the coordinate y on a side of size n
abbrev on_side : Bool → ℕ → ℤ → Option ℕ
on_side wraps n y = cond wraps (Some (nat_abs (int_rem_euclid y (pos n)))) (within_size n y)

-- from the coordinate at a + b steps b steps back lead to that at a
side_turned : (wraps : Bool) (n w : ℕ) (z u : ℤ) (a b : ℕ) → 0 < n → on_side wraps n (z +ℤ pos (a + b) *ℤ u) ≡ Some w → on_side wraps n (pos w +ℤ pos b *ℤ neg_ℤ u) ≡ on_side wraps n (z +ℤ pos a *ℤ u)
side_turned true n w z u a b h e = grind (arith, nat_abs, rem-moved, neg_ℤ, back)
side_turned false n w z u a b h e = grind (arith, neg_ℤ, back, cases_lt, cond-true, ltb, lt-ltb, cond-false, le-ltb)

-- from the place at a + b steps b steps back lead to that at a
pub place_turned : (sides : List Side) (y : List ℕ) (t : List ℤ) (x : List ℕ) (a b : ℕ) → IsBelow y (map (λ s. s.size) sides) → place sides y t (a + b) ≡ Some x → place sides x (opposite t) b ≡ place sides y t a
place_turned [] y t x a b h e = refl
place_turned (s ∷ sides) [] t x a b h e = absurd h
place_turned (s ∷ sides) (z ∷ y) [] x a b h e = absurd (cc)
place_turned (s ∷ sides) (z ∷ y) (u ∷ t) [] a b h e = grind (arith)
place_turned (s ∷ sides) (z ∷ y) (u ∷ t) (w ∷ x) a b h e =
    let parts = in_front-parts (coordinate_on s (pos z +ℤ pos (a + b) *ℤ u)) (place sides y t (a + b)) w x e in
    ap₂ in_front (side_turned s.wraps s.size w (pos z) u a b (omega (arith, h.0)) parts.0) (place_turned sides y t x a b h.1 parts.1)

-- a coordinate on a side is itself
pub side_itself : (wraps : Bool) (n z : ℕ) → z < n → on_side wraps n (pos z) ≡ Some z
side_itself wraps n z h = grind (arith, mod-eq_of_lt, cond-true, ltb, lt-ltb)

-- no step leads to the start
pub side_start : (wraps : Bool) (n z : ℕ) (u : ℤ) → z < n → on_side wraps n (pos z +ℤ pos 0 *ℤ u) ≡ Some z
side_start wraps n z u h =
    ap (on_side wraps n) (ap (λ m. pos z +ℤ m) (zero-*ℤ u) ∙ +ℤ_idr (pos z)) ∙ side_itself wraps n z h

pub place_start : (sides : List Side) (y : List ℕ) (t : List ℤ) (l : ℕ) (x : List ℕ) → IsBelow y (map (λ s. s.size) sides) → place sides y t l ≡ Some x → place sides y t 0 ≡ Some y
place_start [] [] t l x h e = refl
place_start (s ∷ sides) (z ∷ y) [] l x h e = absurd (cc)
place_start (s ∷ sides) (z ∷ y) (u ∷ t) l [] h e = grind (arith)
place_start (s ∷ sides) (z ∷ y) (u ∷ t) l (w ∷ x) h e = grind (arith, in_front-parts, side_start, place_start sides y t l x h.1 (in_front-parts (coordinate_on s (pos z +ℤ pos l *ℤ u)) (place sides y t l) w x e).1)
place_start _ _ t l x h e = absurd h

-- as many steps back lead to the start
pub place_home : (sides : List Side) (y : List ℕ) (t : List ℤ) (l : ℕ) (x : List ℕ) → IsBelow y (map (λ s. s.size) sides) → place sides y t l ≡ Some x → place sides x (opposite t) l ≡ Some y
place_home sides y t l x h e = grind (arith, place_turned, place_start)

-- where a steps and a + k lead to the same place, k lead to the start
pub places_apart : (sides : List Side) (y : List ℕ) (t : List ℤ) (a k : ℕ) (x : List ℕ) → IsBelow y (map (λ s. s.size) sides) → place sides y t a ≡ Some x → place sides y t (a + k) ≡ Some x → place sides y t k ≡ Some y
places_apart sides y t a k x h e f =
    let turned : k + a ≡ a + k = omega arith in
    sym (place_turned sides y t x k a h (ap (place sides y t) turned ∙ f)) ∙ place_home sides y t a x h e

-- ---- moves

-- what is elsewhere exists and is not the start
elsewhere_exists : (x : List ℕ) (o : Option (List ℕ)) → is_elsewhere x o ≡ true → (z : List ℕ) × (o ≡ Some z)
elsewhere_exists x o e = grind (arith, true≢false)

elsewhere_not_home : (x : List ℕ) → is_elsewhere x (Some x) ≢ true
elsewhere_not_home x e = true≢false (sym e ∙ ap not ((bytes_decides x x).1 refl))

elsewhere_from : (x z : List ℕ) → z ≢ x → is_elsewhere x (Some z) ≡ true
elsewhere_from x z h = search (rules, cases_Bool, same_vector, bytes_decides)

-- a rider is elsewhere at each length up to l
abbrev IsElsewhereTo : List Side → List ℕ → List ℤ → ℕ → Type 0
IsElsewhereTo sides y t l = (k : ℕ) → 1 ≤ k → k ≤ l → is_elsewhere y (place sides y t k) ≡ true

-- so each place on its way exists
exists_between : (sides : List Side) (y : List ℕ) (t : List ℤ) (l a : ℕ) (x : List ℕ) → IsBelow y (map (λ s. s.size) sides) → IsElsewhereTo sides y t l → place sides y t l ≡ Some x → a ≤ l → (z : List ℕ) × (place sides y t a ≡ Some z)
exists_between sides y t l zero x h all e le = (y, place_start sides y t l x h e)
exists_between sides y t l (suc a) x h all e le = elsewhere_exists y (place sides y t (suc a)) (all (suc a) (omega arith) le)

-- and on the way back it is not where that begins
elsewhere_back : (sides : List Side) (y : List ℕ) (t : List ℤ) (a k : ℕ) (x : List ℕ) → IsBelow y (map (λ s. s.size) sides) → IsElsewhereTo sides y t (a + k) → place sides y t (a + k) ≡ Some x → 1 ≤ k → is_elsewhere x (place sides x (opposite t) k) ≡ true
elsewhere_back sides y t a k x h all e low =
    let (z, here) = exists_between sides y t (a + k) a x h all e (omega arith) in
    let apart : z ≢ x = λ same.
    let met = places_apart sides y t a k x h (here ∙ ap Some same) e in
    elsewhere_not_home y (ap (is_elsewhere y) (sym met) ∙ all k low (omega arith)) in
    ap (is_elsewhere x) (place_turned sides y t x a k h e ∙ here) ∙ elsewhere_from x z apart

rider_back : (sides : List Side) (y : List ℕ) (t : List ℤ) (l : ℕ) (x : List ℕ) → IsBelow y (map (λ s. s.size) sides) → IsElsewhereTo sides y t l → place sides y t l ≡ Some x → IsElsewhereTo sides x (opposite t) l
rider_back sides y t l x h all e k low up =
    let whole : l - k + k ≡ l = omega arith in
    elsewhere_back sides y t (l - k) k x h (subst (IsElsewhereTo sides y t) (sym whole) all) (ap (place sides y t) whole ∙ e) low

-- a move turned back is one
turned_back : (sides : List Side) (piece : ℤ) (t : List ℤ) (x y : List ℕ) (l : ℕ) → IsBelow x (map (λ s. s.size) sides) → IsBelow y (map (λ s. s.size) sides) → LeadsTo sides piece y t l x → LeadsTo sides piece x (opposite t) l y
turned_back sides (pos p) t x y l b h m = grind (arith, place_home, cond)
turned_back sides (negsuc p) t x y l b h m =
    let goes = (Contains-rider_reach sides y t l h).0 m.0 in
    let home = place_home sides y t l x h m.1 in
    ((Contains-rider_reach sides x (opposite t) l b).1 (goes.0, rider_back sides y t l x h goes.1 m.1), home)

-- and only such moves are turned into one
pub moves_turned : (sides : List Side) (piece : ℤ) (t : List ℤ) (x y : List ℕ) (l : ℕ) → IsBelow x (map (λ s. s.size) sides) → IsBelow y (map (λ s. s.size) sides)
    → LeadsTo sides piece y t l x ↔ LeadsTo sides piece x (opposite t) l y
moves_turned sides piece t x y l b h = (
  turned_back sides piece t x y l b h,
  λ m. subst (λ u. LeadsTo sides piece y u l x) (opposite_twice t) (turned_back sides piece (opposite t) y x l h b m),
)

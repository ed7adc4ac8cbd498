-- Steps of a displacement that lead from a place back to it: whether they do does not depend on the place.
use Rattle.std.proofs.Common.{◌≡◌, ℕ, ◌<◌, ℤ, pos, negsuc, ◌+ℤ◌, ◌*ℤ◌, neg_ℤ, nat_abs, true, ltb, List, [], ◌∷◌, map, Some, refl, arith, zero-add}
use Rattle.std.proofs.Math.Nat.{mod-eq_of_lt}
use Rattle.std.specs.Int.{int_rem_euclid}
use Rattle.std.proofs.lemmas.Bool.{cond-true, lt-ltb, eqb-true, eq-eqb, and_parts, and_from, cases_lt, cond-false, le-ltb}
use Rattle.std.proofs.lemmas.Int.{ints}
use Rattle.sgb_vec.specs.Lexicographic.{IsBelow}
use Rattle.sgb_moves.specs.Moves.{Side, coordinate_on, place}
use Rattle.sgb_gen.specs.inner.BoardCounts.{is_home_on, is_home}
use Rattle.sgb_moves.proofs.TurnedMoves.{in_front-parts, rem-moved}

-- ---- one side

-- around a side
wrapped-to : (n x : ℕ) (u : ℤ) → x < n → nat_abs (int_rem_euclid u (pos n)) ≡ 0 → nat_abs (int_rem_euclid (pos x +ℤ u) (pos n)) ≡ x
wrapped-to n x u h e =
    let turned : pos x +ℤ u ≡ u +ℤ pos x = omega (arith, ints) in
    cc (turned, rem-moved n u (pos x) (omega arith), e, zero-add x, mod-eq_of_lt h)

wrapped-from : (n x : ℕ) (u : ℤ) → x < n → nat_abs (int_rem_euclid (pos x +ℤ u) (pos n)) ≡ x → nat_abs (int_rem_euclid u (pos n)) ≡ 0
wrapped-from n x u h e =
    let back : (pos x +ℤ u) +ℤ neg_ℤ (pos x) ≡ u = omega (arith, ints) in
    let none : pos x +ℤ neg_ℤ (pos x) ≡ pos 0 = omega (arith, ints) in
    let some : 0 < n = omega arith in
    cc (back, rem-moved n (pos x +ℤ u) (neg_ℤ (pos x)) some, e, none, mod-eq_of_lt some)

-- ---- all sides

-- where the steps lead home, they do from each place
pub home-to : (sides : List Side) (x : List ℕ) (t : List ℤ) (l : ℕ) → IsBelow x (map (λ s. s.size) sides) → is_home sides t l ≡ true → place sides x t l ≡ Some x
home-to [] [] t l b e = refl
home-to (s ∷ sides) (y ∷ x) [] l b e = absurd (cc)
home-to (s ∷ sides) (y ∷ x) (u ∷ t) l b e = grind (arith, and_parts, wrapped-to, eqb-true, nat_abs, cond-true, ltb, lt-ltb, home-to sides x t l b.1 (and_parts (is_home_on s (pos l *ℤ u)) (is_home sides t l) e).1)
home-to _ _ t l b e = absurd b

-- and where they do from one place, they lead home
pub home-from : (sides : List Side) (x : List ℕ) (t : List ℤ) (l : ℕ) → IsBelow x (map (λ s. s.size) sides) → place sides x t l ≡ Some x → is_home sides t l ≡ true
home-from [] x t l b e = refl
home-from (s ∷ sides) [] t l b e = absurd b
home-from (s ∷ sides) (y ∷ x) [] l b e = absurd (cc)
home-from (s ∷ sides) (y ∷ x) (u ∷ t) l b e = grind (arith, in_front-parts, and_from, nat_abs, eq-eqb, wrapped-from, ints, negsuc, cases_lt, cond-true, ltb, lt-ltb, cond-false, le-ltb, home-from sides x t l b.1 (in_front-parts (coordinate_on s (pos y +ℤ pos l *ℤ u)) (place sides x t l) y x e).1)

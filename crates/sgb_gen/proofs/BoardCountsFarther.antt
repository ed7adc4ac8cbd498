-- From a place of a board, where l steps of a displacement lead out of it, so does one step more.
use Rattle.std.proofs.Common.{◌≡◌, ℕ, ◌+◌, ◌<◌, ◌≤◌, ◌⊎◌, ℤ, pos, negsuc, ◌+ℤ◌, ◌*ℤ◌, nat_abs, Bool, cond, List, [], ◌∷◌, map, Option, Some, None, refl, ap, ◌∙◌, inl, inr, arith, ltb}
use Rattle.std.specs.Int.{int_rem_euclid}
use Rattle.std.proofs.lemmas.Bool.{cases_lt, cond-true, lt-ltb, cond-false, le-ltb}
use Rattle.std.proofs.lemmas.Int.{ints}
use Rattle.sgb_vec.specs.Lexicographic.{IsBelow}
use Rattle.sgb_moves.specs.Moves.{Side, within_size, coordinate_on, in_front, place}
use Rattle.sgb_gen.proofs.BoundedMoves.{in_front-none}

-- what is not within a side
outside : (n y : ℕ) → within_size n (pos y) ≡ None → n ≤ y
outside n y e = grind (arith, cases_lt, cond-true, lt-ltb)

chosen_farther : (wraps : Bool) (n x l : ℕ) (u : ℤ) → x < n → cond wraps (Some (nat_abs (int_rem_euclid (pos x +ℤ pos l *ℤ u) (pos n)))) (within_size n (pos x +ℤ pos l *ℤ u)) ≡ None → cond wraps (Some (nat_abs (int_rem_euclid (pos x +ℤ pos (l + 1) *ℤ u) (pos n)))) (within_size n (pos x +ℤ pos (l + 1) *ℤ u)) ≡ None
chosen_farther wraps n x l u h e = grind (arith, outside, ints, negsuc, cond-false, ltb, le-ltb)

none_parts : (o : Option ℕ) (p : Option (List ℕ)) → in_front o p ≡ None → (o ≡ None) ⊎ (p ≡ None)
none_parts o p e = grind (arith)

pub farther : (sides : List Side) (x : List ℕ) (t : List ℤ) (l : ℕ) → IsBelow x (map (λ s. s.size) sides) → place sides x t l ≡ None → place sides x t (l + 1) ≡ None
farther [] x t l b e = absurd (cc)
farther (s ∷ sides) [] t l b e = absurd b
farther (s ∷ sides) (y ∷ x) [] l b e = refl
farther (s ∷ sides) (y ∷ x) (u ∷ t) l b e =
    let here = coordinate_on s (pos y +ℤ pos (l + 1) *ℤ u) in
    elim (none_parts (coordinate_on s (pos y +ℤ pos l *ℤ u)) (place sides x t l) e) [
      | inl off ↦ ap (λ o. in_front o (place sides x t (l + 1))) (chosen_farther s.wraps s.size y l u b.0 off)
      | inr off ↦ ap (in_front here) (farther sides x t l b.1 off) ∙ in_front-none here
    ]

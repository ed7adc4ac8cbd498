-- From how many places of a board steps of a displacement lead to a place: the product over the sides.
use Rattle.std.proofs.Common.{◌≡◌, ℕ, zero, suc, ◌+◌, ◌-◌, ◌*◌, ◌≤◌, ℤ, pos, negsuc, ◌+ℤ◌, ◌*ℤ◌, nat_abs, Bool, true, false, ◌&&◌, cond, ltb, List, [], ◌∷◌, length, map, Option, Some, None, refl, ap, ◌∙◌, arith, length-append}
use Rattle.std.specs.Int.{int_rem_euclid}
use Rattle.std.specs.List.{filter, flat_map, range_with_len}
use Rattle.std.specs.Option.{is_some}
use Rattle.std.proofs.lemmas.Bool.{cases_lt, cond-false, le-ltb}
use Rattle.std.proofs.lemmas.Int.{ints}
use Rattle.std.proofs.lemmas.List.Elements.{filter-append}
use Rattle.std.proofs.lemmas.List.FromFn.{length-range_with_len}
use Rattle.sgb_vec.specs.Boxes.{box}
use Rattle.sgb_vec.proofs.Lists.{passing_first}
use Rattle.sgb_moves.specs.Moves.{Side, within_size, coordinate_on, in_front, place}
use Rattle.sgb_gen.specs.inner.BoardCounts.{starts_product}
use Rattle.sgb_moves.proofs.BoundsSoFar.{on_side}

-- how many of them pass
abbrev pub passing : {X : Type 0} → (X → Bool) → List X → ℕ
passing p xs = length (filter p xs)

-- ---- one side

all_pass : {X : Type 0} (xs : List X) → passing (λ x. true) xs ≡ length xs
all_pass [] = refl
all_pass (x ∷ xs) = ap suc (all_pass xs)

left-none : (n y : ℕ) → n ≤ y → is_some (within_size n (pos y)) ≡ false
left-none n y h = ap is_some (cond-false (ltb y n) (Some y) None (le-ltb y n h))

-- forward the last ones leave it, backward the first ones
forward : (n m k a : ℕ) → m + k ≡ n → passing (λ x. is_some (within_size n (pos x +ℤ pos a))) (range_with_len m k) ≡ k - a
forward n m zero a e = omega arith
forward n m (suc k) a e = grind (arith, passing_first, cases_lt, cond, passing, on_side, left-none, forward n (m + 1) k a (omega arith))

backward : (n m k a : ℕ) → m + k ≡ n → passing (λ x. is_some (within_size n (pos x +ℤ negsuc a))) (range_with_len m k) ≡ (n - suc a) - (m - suc a)
backward n m zero a e = omega arith
backward n m (suc k) a e = grind (arith, negsuc, passing_first, cases_lt, cond, passing, ints, on_side, backward n (m + 1) k a (omega arith))

side_starts : (wraps : Bool) (n : ℕ) (u : ℤ) → passing (λ x. is_some (cond wraps (Some (nat_abs (int_rem_euclid (pos x +ℤ u) (pos n)))) (within_size n (pos x +ℤ u)))) (range_with_len 0 n) ≡ cond wraps n (n - nat_abs u)
side_starts true n u = all_pass (range_with_len 0 n) ∙ length-range_with_len 0 n
side_starts false n (pos a) = forward n 0 n a (omega arith)
side_starts false n (negsuc a) = backward n 0 n a (omega arith) ∙ omega arith

-- ---- all sides

-- of vectors with x in front those pass whose other entries do, if x does
row_passing : (p : List ℕ → Bool) (b : Bool) (r : List ℕ → Bool) (x : ℕ) → ((v : List ℕ) → p (x ∷ v) ≡ (b && r v)) → (vs : List (List ℕ)) → passing p (map (λ v. x ∷ v) vs) ≡ cond b (passing r vs) 0
row_passing p true r x e (v ∷ vs) = grind (arith, passing_first, row_passing p true r x e vs)
row_passing p false r x e (v ∷ vs) = grind (arith, passing_first, cond, passing, row_passing p false r x e vs)
row_passing p _ r x e _ = refl

row_times : (b : Bool) (n m : ℕ) → cond b m 0 + n * m ≡ (cond b 1 0 + n) * m
row_times b n m = grind (arith)

rows_passing : (p : List ℕ → Bool) (q : ℕ → Bool) (r : List ℕ → Bool) → ((x : ℕ) (v : List ℕ) → p (x ∷ v) ≡ (q x && r v)) → (vs : List (List ℕ)) (xs : List ℕ) → passing p (flat_map (λ x. map (λ v. x ∷ v) vs) xs) ≡ passing q xs * passing r vs
rows_passing p q r e vs [] = omega arith
rows_passing p q r e vs (x ∷ xs) = grind (arith, filter-append, length-append, passing, row_passing, cond, row_times, passing_first, rows_passing p q r e vs xs)

front_test : (o : Option ℕ) (p : Option (List ℕ)) → is_some (in_front o p) ≡ (is_some o && is_some p)
front_test o p = grind (arith)

none_pass : {X : Type 0} (xs : List X) → passing (λ x. false) xs ≡ 0
none_pass [] = refl
none_pass (x ∷ xs) = none_pass xs

pub starts-product : (sides : List Side) (t : List ℤ) (l : ℕ) → length t ≡ length sides → passing (λ x. is_some (place sides x t l)) (box (map (λ s. s.size) sides)) ≡ starts_product sides t l
unfolding box
starts-product [] t l e = refl
starts-product (s ∷ sides) [] l e = absurd (omega arith)
starts-product (s ∷ sides) (u ∷ t) l e =
    let q : ℕ → Bool = λ x. is_some (coordinate_on s (pos x +ℤ pos l *ℤ u)) in
    let r : List ℕ → Bool = λ v. is_some (place sides v t l) in
    simp (rows_passing, front_test, passing, side_starts, q, r, starts-product sides t l (omega arith))

-- A rider stops: as many steps as the board has places lead out of it or back to the start.
use Rattle.std.proofs.Common.{◌≡◌, ℕ, zero, suc, ◌+◌, ◌-◌, ◌*◌, ◌%◌, ◌<◌, ◌≤◌, ◌↔◌, ◌⊎◌, ℤ, pos, negsuc, ◌+ℤ◌, ◌*ℤ◌, nat_abs, Bool, true, false, ltb, List, [], ◌∷◌, map, length, get_or, take, Option, Some, None, refl, sym, ap, ◌∙◌, inl, inr, arith, rules}
use Rattle.std.proofs.Math.Nat.{add-mul-mod_self_left, mod-eq_of_lt}
use Rattle.std.specs.Cmp.Lexicographic.{bytes_decides}
use Rattle.std.specs.Int.{int_rem_euclid}
use Rattle.std.specs.List.{Contains, range_with_len, take_while, prefix_len}
use Rattle.std.proofs.lemmas.Bool.{cond-true, cond-false, lt-ltb, le-ltb, cases_lt}
use Rattle.std.proofs.lemmas.Int.{int_rem_euclid_is}
use Rattle.std.proofs.lemmas.List.{get_or-take, length-take-le}
use Rattle.std.proofs.lemmas.List.FromFn.{length-range_with_len, get_or-range_with_len}
use Rattle.std.proofs.lemmas.List.Sums.{prefix_len-le-length, prefix_len_passes, prefix_len_stops}
use Rattle.std.proofs.lemmas.Nat.{mul-le}
use Rattle.sgb_vec.specs.Lexicographic.{IsBelow}
use Rattle.sgb_moves.specs.Moves.{Side, within_size, coordinate_on, in_front, place, is_elsewhere, places_count, rider_reach}

-- nothing, or the value itself
abbrev OutOrHome : {X : Type 0} → Option X → X → Type 0
OutOrHome r x = (r ≡ None) ⊎ (r ≡ Some x)

-- whole turns around a side lead back
turns : (n q x : ℕ) (t : ℤ) → x < n → nat_abs (int_rem_euclid (pos x +ℤ pos (q * n) *ℤ t) (pos n)) ≡ x
turns n q x (pos a) h =
    let whole : x + q * n * a ≡ x + n * (q * a) = omega arith in
    ap (λ m. m % n) whole ∙ add-mul-mod_self_left x n (q * a) ∙ mod-eq_of_lt h
turns n q x (negsuc a) h =
    let back : q * (a + 1) * n ≡ q * n * suc a = omega arith in
    let home : (pos x +ℤ pos (q * n) *ℤ negsuc a) +ℤ pos (q * (a + 1) * n) ≡ pos x = grind (arith, negsuc) in
    ap nat_abs (int_rem_euclid_is (pos x +ℤ pos (q * n) *ℤ negsuc a) (pos n) n (q * (a + 1)) x (omega arith) refl home) ∙ mod-eq_of_lt h

-- a step of a side's size or more leads out of it, or is none
strides : (n x l : ℕ) (t : ℤ) → x < n → n ≤ l → OutOrHome (within_size n (pos x +ℤ pos l *ℤ t)) x
strides n x l (pos zero) h far = grind (arith, cond-true, ltb, lt-ltb)
strides n x l t h far = grind (arith, cond-false, ltb, le-ltb, cond-true, negsuc, lt-ltb)

-- the same of one coordinate, at a length that the side's size divides
coordinates : (s : Side) (q x : ℕ) (t : ℤ) → x < s.size → 0 < q → OutOrHome (coordinate_on s (pos x +ℤ pos (q * s.size) *ℤ t)) x
coordinates s q x t h p = grind (arith, mul-le, turns, strides)

-- a coordinate in front
home_in_front : (o : Option ℕ) (p : Option (List ℕ)) (x : ℕ) (v : List ℕ) → OutOrHome o x → OutOrHome p v → OutOrHome (in_front o p) (x ∷ v)
home_in_front o p x v h r = grind (arith)

-- the first factor of a product above 0 is above 0
first_factor : (m n : ℕ) → 0 < m * n → 0 < m
first_factor zero n h = absurd (omega arith)
first_factor (suc m) n h = omega arith

-- at a length that the number of places divides the place does not exist or is the start
places : (sides : List Side) (x : List ℕ) (t : List ℤ) (m l : ℕ) → l ≡ m * places_count sides → 0 < l → IsBelow x (map (λ s. s.size) sides) → OutOrHome (place sides x t l) x
places [] [] t m l e p b = inr refl
places (s ∷ sides) (y ∷ x) [] m l e p b = inl refl
places (s ∷ sides) (y ∷ x) (u ∷ t) m l e p b =
    let q = m * places_count sides in
    let whole : q * s.size ≡ l = omega arith in
    grind (arith, OutOrHome, coordinates, first_factor, home_in_front, q, whole, places sides x t (m * s.size) l (omega arith) p b.1)
places _ _ t m l e p b = absurd b

-- a board that has a place has more than none
places_count-pos : (sides : List Side) (x : List ℕ) → IsBelow x (map (λ s. s.size) sides) → 0 < places_count sides
places_count-pos [] [] b = omega arith
places_count-pos (s ∷ sides) (y ∷ x) b = search (rules, mul-le, places_count, places_count-pos sides x b.1)
places_count-pos _ _ b = absurd b

-- out or home is not elsewhere
not_elsewhere : (x : List ℕ) (p : Option (List ℕ)) → OutOrHome p x → is_elsewhere x p ≡ false
not_elsewhere x p h = search (rules, is_elsewhere, bytes_decides)

-- a rider stops after as many steps as there are places
pub rider-stops : (sides : List Side) (x : List ℕ) (t : List ℤ) → IsBelow x (map (λ s. s.size) sides) → is_elsewhere x (place sides x t (places_count sides)) ≡ false
rider-stops sides x t b =
    let n = places_count sides in
    not_elsewhere x (place sides x t n) (places sides x t 1 n (omega arith) (places_count-pos sides x b) b)

-- the numbers from 1 to n, and how many of them pass before the first that does not
abbrev numbers_to : ℕ → List ℕ
numbers_to n = range_with_len 1 n

abbrev pub passing : (ℕ → Bool) → ℕ → ℕ
passing p n = prefix_len p (numbers_to n)

-- the i-th of them is i + 1
number_at : (n i d : ℕ) → i < n → get_or (numbers_to n) i d ≡ i + 1
number_at n i d h = get_or-range_with_len 1 n i d h ∙ omega arith

pub passing-le : (p : ℕ → Bool) (n : ℕ) → passing p n ≤ n
passing-le p n = omega (arith, prefix_len-le-length p (numbers_to n), length-range_with_len 1 n)

-- each of them passes
pub passing_passes : (p : ℕ → Bool) (n k : ℕ) → 1 ≤ k → k ≤ passing p n → p k ≡ true
passing_passes p n zero h g = absurd (omega arith)
passing_passes p n (suc k) h g =
    let at : get_or (numbers_to n) k 0 ≡ suc k = number_at n k 0 (omega (arith, passing-le p n)) ∙ omega arith in
    ap p (sym at) ∙ prefix_len_passes p (numbers_to n) k 0 (omega arith)

-- the next one, if there is one, does not
pub next_fails : (p : ℕ → Bool) (n : ℕ) → passing p n < n → p (passing p n + 1) ≡ false
next_fails p n h =
    let within : passing p n < length (numbers_to n) = omega (arith, length-range_with_len 1 n) in
    ap p (sym (number_at n (passing p n) 0 h)) ∙ prefix_len_stops p (numbers_to n) 0 within

-- the number kept at place i is i + 1
kept_at : (p : ℕ → Bool) (n i d : ℕ) → i < passing p n → get_or (take (passing p n) (numbers_to n)) i d ≡ i + 1
kept_at p n i d h = get_or-take (passing p n) (numbers_to n) i d h ∙ number_at n i d (omega (arith, passing-le p n))

length-kept : (p : ℕ → Bool) (n : ℕ) → length (take (passing p n) (numbers_to n)) ≡ passing p n
length-kept p n = length-take-le (passing p n) (numbers_to n) (omega (arith, passing-le p n, length-range_with_len 1 n))

-- where the test fails at n, all numbers up to l pass only where l is among those kept
passing-from_all : (p : ℕ → Bool) (n l : ℕ) → 0 < n → p n ≡ false → ((k : ℕ) → 1 ≤ k → k ≤ l → p k ≡ true) → l ≤ passing p n
passing-from_all p n l some stop all = grind (arith, cases_lt, next_fails)

-- where the test fails at n, the numbers kept are those up to which all pass
Contains-kept : (p : ℕ → Bool) (n l : ℕ) → 0 < n → p n ≡ false → Contains (take_while p (numbers_to n)) l ↔ (1 ≤ l) × ((k : ℕ) → 1 ≤ k → k ≤ l → p k ≡ true)
Contains-kept p n l some stop = (to, from)
  where
    to : Contains (take_while p (numbers_to n)) l → (1 ≤ l) × ((k : ℕ) → 1 ≤ k → k ≤ l → p k ≡ true)
    to (i, within, at) =
        let inside : i < passing p n = omega (arith, length-kept p n) in
        let is : l ≡ i + 1 = sym at ∙ kept_at p n i l inside in
        (omega arith, λ k h g. passing_passes p n k h (omega arith))

    from : (1 ≤ l) × ((k : ℕ) → 1 ≤ k → k ≤ l → p k ≡ true) → Contains (take_while p (numbers_to n)) l
    from h =
        let low = h.0 in
        let up = passing-from_all p n l some stop h.1 in
        let inside : l - 1 < passing p n = omega arith in
        (l - 1, omega (arith, length-kept p n), kept_at p n (l - 1) l inside ∙ omega arith)

-- the lengths of a rider's moves are those up to which each place exists and is not the start
pub Contains-rider_reach : (sides : List Side) (x : List ℕ) (t : List ℤ) (l : ℕ) → IsBelow x (map (λ s. s.size) sides)
    → Contains (rider_reach sides x t) l ↔ (1 ≤ l) × ((k : ℕ) → 1 ≤ k → k ≤ l → is_elsewhere x (place sides x t k) ≡ true)
Contains-rider_reach sides x t l b =
    Contains-kept (λ k. is_elsewhere x (place sides x t k)) (places_count sides) l (places_count-pos sides x b) (rider-stops sides x t b)

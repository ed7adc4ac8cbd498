-- The first cycle of random numbers, made of the numbers of Y.
use Rattle.sgb_vec.proofs.Common.{◌≡◌, ℕ, suc, ◌+◌, ◌-◌, ◌*◌, ◌/◌, ◌%◌, ◌^◌, ◌<◌, List, replicate, get_or, set, true, refl, ap, sym, ◌∙◌, subst, inl, inr, arith, get_or-set_same, get_or-set_other, ◌==◌, list_all, range_with_len, cases_lt, Decides-eqb, get_or-replicate, pow_pos, pow-add, div-div-eq-div-mul, pow-succ'}
use Rattle.std.proofs.Math.Arith.{mod-mul}
use Rattle.sgb_graph.specs.Draws.{modulus, difference, rotated, y_number}
use Rattle.sgb_graph.specs.inner.Flips.{IsCycle, first_x, rotated_once}
use Rattle.sgb_graph.proofs.TestLemmas.{at_each_below}
use Rattle.sgb_graph.proofs.Cycles.{difference_below, cycle_with}

-- each later one, by two steps
y_by_two : (seed k : ℕ) → y_number seed (suc (suc k)) ≡ difference (difference (y_number seed k) (y_number seed (suc k))) (rotated seed (k + 1))
unfolding y_number
y_by_two seed k = refl

-- the same, counted from k
pub y_later : (seed k : ℕ) → y_number seed (k + 2) ≡ difference (difference (y_number seed k) (y_number seed (k + 1))) (rotated seed (k + 1))
y_later seed k =
    ap (y_number seed) (omega arith) ∙ (y_by_two seed k ∙ ap (λ (j : ℕ). difference (difference (y_number seed k) (y_number seed j)) (rotated seed (k + 1))) (omega arith))

-- a number rotated by one place is below 2^31
pub rotated_once_below : (n : ℕ) → n < modulus → rotated_once n < modulus
rotated_once_below n small = omega arith

-- one place more, where p q is 2^30
turned_once : (s p q : ℕ) → 0 < p → p * q ≡ 2 ^ 30 → s / (2 * p) + s % (2 * p) * q ≡ rotated_once (s / p + s % p * (2 * q))
turned_once s p q some whole =
    let high : s / (2 * p) ≡ s / p / 2 = ap (λ (d : ℕ). s / d) (omega arith) ∙ sym (div-div-eq-div-mul s p 2) in
    let low : s % (2 * p) ≡ s / p % 2 * p + s % p = mod-mul s (omega arith) some in
    rw (high, low) (omega (arith, ap (λ d. s / p % 2 * d) whole))

-- rotated once more
pub rotated_more : (seed k : ℕ) → seed < modulus → rotated seed (k + 1) ≡ rotated_once (rotated seed k)
rotated_more seed k small =
    let turns : ℕ → ℕ = λ j. seed / 2 ^ j + seed % 2 ^ j * 2 ^ (31 - j) in
    let inside : (j : ℕ) → j < 30 → turns (j + 1) ≡ rotated_once (turns j) = λ j low.
    let higher : j + 1 ≡ suc j = omega arith in
    let more : 2 ^ (j + 1) ≡ 2 * 2 ^ j = ap (λ (i : ℕ). 2 ^ i) higher ∙ pow-succ' 2 j in
    let left : 31 - j ≡ suc (30 - j) = omega arith in
    let rest : 2 ^ (31 - j) ≡ 2 * 2 ^ (30 - j) = ap (λ (i : ℕ). 2 ^ i) left ∙ pow-succ' 2 (30 - j) in
    let less : 31 - (j + 1) ≡ 30 - j = omega arith in
    let all : j + (30 - j) ≡ 30 = omega arith in
    let whole : 2 ^ j * 2 ^ (30 - j) ≡ 2 ^ 30 = sym (pow-add 2 j (30 - j)) ∙ ap (λ (i : ℕ). 2 ^ i) all in
    rw (more, less, rest) (turned_once seed (2 ^ j) (2 ^ (30 - j)) (pow_pos j) whole) in
    elim (cases_lt (k % 31) 30) [
      | inl low ↦
          let next : (k + 1) % 31 ≡ k % 31 + 1 = omega arith in
          ap turns next ∙ inside (k % 31) low
      | inr high ↦
          let last : k % 31 ≡ 30 = omega arith in
          let next : (k + 1) % 31 ≡ 0 = omega arith in
          let around : turns 0 ≡ rotated_once (turns 30) = omega arith in
          ap turns next ∙ (around ∙ ap (λ (j : ℕ). rotated_once (turns j)) (sym last))
    ]

-- Y(k) stands at this place of the first cycle, from 0
abbrev pub place_of : ℕ → ℕ
place_of k = (21 * k + 54) % 55

-- the place of Y(21 (i + 1) modulo 55) is i, tried at each
places_back : list_all (λ i. place_of (21 * (i + 1) % 55) == i) (range_with_len 0 55) ≡ true
places_back = refl

-- so it is
place_back : (i : ℕ) → i < 55 → place_of (21 * (i + 1) % 55) ≡ i
place_back i inside = (Decides-eqb _ i).0 (at_each_below (λ i. place_of (21 * (i + 1) % 55) == i) 55 places_back i inside)

-- and number 21 (place + 1) modulo 55 is k at the place of Y(k), tried at each
numbers_there : list_all (λ k. 21 * (place_of k + 1) % 55 == k) (range_with_len 0 55) ≡ true
numbers_there = refl

-- so it is
number_there : (k : ℕ) → k < 55 → 21 * (place_of k + 1) % 55 ≡ k
number_there k inside = (Decides-eqb _ k).0 (at_each_below (λ k. 21 * (place_of k + 1) % 55 == k) 55 numbers_there k inside)

-- Y(0) to Y(k - 1) stand at their places, and the next two are known
pub record IsFilling (seed : ℕ) (numbers : List ℕ) (number next turned k : ℕ) : Type 0 where
  pub cycle : IsCycle numbers
  pub number_small : number < modulus
  pub next_small : next < modulus
  pub turned_small : turned < modulus
  pub number_is : number ≡ y_number seed k
  pub next_is : next ≡ y_number seed (k + 1)
  pub turned_is : turned ≡ rotated seed k
  pub filled : (i : ℕ) → i < 55 → 21 * (i + 1) % 55 < k → get_or numbers i 0 ≡ first_x seed (i + 1)

-- 55 zeros
pub zeros_are_cycle : IsCycle (replicate 55 0)
zeros_are_cycle = record { many = refl; below = λ i inside. rw (get_or-replicate {A = ℕ} 55 i 0 0 inside) (omega arith) }

-- at the start
pub filling_none : (seed : ℕ) → seed < modulus → IsFilling seed (replicate 55 0) seed 1 seed 0
unfolding y_number
filling_none seed small = grind (arith, zeros_are_cycle)

-- one number more
filling_more : (seed : ℕ) (numbers : List ℕ) (number next turned k : ℕ) → seed < modulus → k < 55 → IsFilling seed numbers number next turned k
    → IsFilling seed (set numbers (place_of k) number) next (difference (difference number next) (rotated_once turned)) (rotated_once turned) (k + 1)
filling_more seed numbers number next turned k small inside is =
    let turned_more : rotated_once turned ≡ rotated seed (k + 1) = ap rotated_once is.turned_is ∙ sym (rotated_more seed k small) in
    let here = get_or-set_same numbers (place_of k) number 0 (omega (arith, is.cycle.many)) in
    let there = number_there k inside in
    record {
      cycle = cycle_with numbers (place_of k) number is.cycle is.number_small;
      number_small = is.next_small;
      next_small = difference_below (difference number next) (rotated_once turned);
      turned_small = rotated_once_below turned is.turned_small;
      number_is = is.next_is;
      next_is = rw (is.number_is, is.next_is, turned_more) (sym (y_later seed k) ∙ ap (y_number seed) (omega arith));
      turned_is = turned_more;
      filled = λ i within before. elim (cases_lt (21 * (i + 1) % 55) k) [
        | inl earlier ↦ grind (arith, get_or-set_other)
        | inr at ↦ grind (arith, place_back, set)
      ];
    }

-- the same, where the place is computed otherwise
pub filling_at : (seed : ℕ) (numbers : List ℕ) (number next turned k p : ℕ) → seed < modulus → k < 55 → IsFilling seed numbers number next turned k → place_of k ≡ p
    → IsFilling seed (set numbers p number) next (difference (difference number next) (rotated_once turned)) (rotated_once turned) (k + 1)
filling_at seed numbers number next turned k p small inside is place =
    subst (λ q. IsFilling seed (set numbers q number) next (difference (difference number next) (rotated_once turned)) (rotated_once turned) (k + 1)) place
    (filling_more seed numbers number next turned k small inside is)

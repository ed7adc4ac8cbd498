-- How often a step has to be made around a side until it is back: the least number of times, found as the greatest
-- common divisor is.
use Rattle.std.proofs.Common.{◌≡◌, ℕ, zero, suc, ◌+◌, ◌-◌, ◌*◌, ◌/◌, ◌%◌, ◌<◌, ◌≤◌, ℤ, pos, negsuc, ◌*ℤ◌, nat_abs, Bool, true, false, ◌&&◌, eqb, refl, sym, ap, ◌∙◌, inl, inr, arith, rules}
use Rattle.std.specs.Int.{int_rem_euclid}
use Rattle.std.proofs.Math.Nat.{mod-eq_of_lt, mul-mod_left}
use Rattle.std.proofs.lemmas.Bool.{cases_Bool, cases_lt, eqb-true, eqb-false, eq-eqb}
use Rattle.std.proofs.lemmas.Int.{ints}
use Rattle.std.proofs.lemmas.Nat.{mul-le, mod-mul-add, mul-mod_second}

-- tests of 0 that mean the same
pub both_zero : (a b : ℕ) → (a ≡ 0 → b ≡ 0) → (b ≡ 0 → a ≡ 0) → eqb a 0 ≡ eqb b 0
both_zero zero zero f g = refl
both_zero zero (suc b) f g = absurd (omega (arith, f refl))
both_zero (suc a) zero f g = absurd (omega (arith, g refl))
both_zero (suc a) (suc b) f g = grind (arith, cases_Bool, eqb, eqb-true)

-- a is some times n
abbrev pub IsTimes : ℕ → ℕ → Type 0
IsTimes n a = (c : ℕ) × (a ≡ c * n)

pub times-from : (n a : ℕ) → 0 < n → a % n ≡ 0 → IsTimes n a
times-from n a some e = (a / n, omega (arith, e, some))

pub times-to : (n a c : ℕ) → a ≡ c * n → a % n ≡ 0
times-to n a c e = ap (λ m. m % n) e ∙ mul-mod_left c n

-- equal products of a number that is not 0
same_factor : (a b v : ℕ) → 0 < v → a * v ≡ b * v → a ≡ b
same_factor a b v some e = grind (arith, cases_lt, mul-le)

-- ---- one step of the search

module _ (n v o : ℕ) (some : 0 < v) (below : v < n) (one : 0 < o) (few : o ≤ v) (inner : (q : ℕ) → eqb (q * (n % v) % v) 0 ≡ eqb (q % o) 0) where
  -- so many times v is some times n
  whole : o * n ≡ o * n / v * v
  whole =
      let own : o % o ≡ 0 = times-to o o 1 (omega arith) in
      grind (arith, eqb-true, eq-eqb, mul-mod_second, own)

  pub times-some : 0 < o * n / v
  times-some = grind (arith, mul-le, cases_lt, whole)

  pub times-exact : (i : ℕ) → eqb (i * v % n) 0 ≡ eqb (i % (o * n / v)) 0
  times-exact i =
      let count = o * n / v in
      both_zero (i * v % n) (i % count)
      (λ e.
      let (q, is) = times-from n (i * v) (omega (arith, below)) e in
      let turned : q * n % v ≡ 0 = times-to v (q * n) i (sym is) in
      let left : q % o ≡ 0 = eqb-true (q % o) 0 (sym (inner q) ∙ eq-eqb (q * (n % v) % v) 0 (mul-mod_second q n v ∙ turned)) in
      let (c, times) = times-from o q one left in
      let grouped : c * o * n ≡ c * (o * n) = omega arith in
      let again : c * (count * v) ≡ c * count * v = omega arith in
      let product : i * v ≡ c * count * v = is ∙ ap (λ m. m * n) times ∙ grouped ∙ ap (λ m. c * m) whole ∙ again in
      times-to count i c (same_factor i (c * count) v some product))
      (λ e.
      let (c, times) = times-from count i times-some e in
      let again : c * count * v ≡ c * (count * v) = omega arith in
      let grouped : c * (o * n) ≡ c * o * n = omega arith in
      let product : i * v ≡ c * o * n = ap (λ m. m * v) times ∙ again ∙ ap (λ m. c * m) (sym whole) ∙ grouped in
      times-to n (i * v) (c * o) product)

-- ---- steps of either sign

-- what comes before a multiple of n leaves n - 1
one_before : (n a c : ℕ) → 0 < n → suc a ≡ c * n → a % n ≡ n - 1
one_before n a zero some is = absurd (omega (arith, is))
one_before n a (suc c) some is =
    let before : a ≡ c * n + (n - 1) = omega (arith, is, some) in
    ap (λ m. m % n) before ∙ mod-mul-add c n (n - 1) (omega (arith, some))

-- what leaves nothing leaves nothing either way
pub rem-none : (n : ℕ) (z : ℤ) → 0 < n → eqb (nat_abs (int_rem_euclid z (pos n))) 0 ≡ eqb (nat_abs z % n) 0
rem-none n (pos a) some = refl
rem-none n (negsuc a) some =
    both_zero (n - 1 - a % n) (suc a % n)
    (λ e.
    let last : a % n ≡ n - 1 = omega (arith, some, e) in
    times-to n (suc a) (a / n + 1) (omega (arith, last, some)))
    (λ e.
    let times = times-from n (suc a) some e in
    omega (arith, one_before n a times.0 some times.1))

-- ---- sides one after another

-- where h steps lead home on the sides before, and o times these on this one
pub home-both : (h o l : ℕ) (on : ℕ → Bool) → 0 < h → 0 < o → ((i : ℕ) → on (i * h) ≡ eqb (i % o) 0) → (eqb (l % h) 0 && on l) ≡ eqb (l % (h * o)) 0
home-both h o l on some one each =
    let product : 1 ≤ h * o = omega (arith, mul-le 1 1 h o (omega arith) (omega arith)) in
    elim (cases_Bool (eqb (l % h) 0)) [
      | inl home ↦
          let (i, is) = times-from h l some (eqb-true (l % h) 0 home) in
          ap (λ b. b && on l) home ∙ ap on is ∙ each i
          ∙ both_zero (i % o) (l % (h * o))
          (λ e.
          let (c, times) = times-from o i one e in
          let grouped : c * o * h ≡ c * (h * o) = omega arith in
          times-to (h * o) l c (is ∙ ap (λ m. m * h) times ∙ grouped))
          (λ e.
          let (c, times) = times-from (h * o) l (omega (arith, product)) e in
          let grouped : c * (h * o) ≡ c * o * h = omega arith in
          times-to o i c (same_factor i (c * o) h some (sym is ∙ times ∙ grouped)))
      | inr away ↦
          let other = eqb-false (l % h) 0 away in
          ap (λ b. b && on l) away
          ∙ sym (elim (cases_Bool (eqb (l % (h * o)) 0)) [
            | inl home ↦
                let (c, times) = times-from (h * o) l (omega (arith, product)) (eqb-true (l % (h * o)) 0 home) in
                let grouped : c * (h * o) ≡ c * o * h = omega arith in
                absurd (other (times-to h l (c * o) (times ∙ grouped)))
            | inr out ↦ out
          ])
    ]

-- on a side of n coordinates, i times so many steps
pub around-home : (n steps r : ℕ) (t : ℤ) (i : ℕ) → 0 < n → eqb (i * (steps * nat_abs t % n) % n) 0 ≡ eqb (i % r) 0 → eqb (nat_abs (int_rem_euclid (pos (i * steps) *ℤ t) (pos n))) 0 ≡ eqb (i % r) 0
around-home n steps r t i some e = search (rules, rem-none, mul-mod_second, ints)

-- a rider is away at each length before the least one at which it is home
pub away-before : (home l : ℕ) → 0 < l → l ≤ home - 1 → eqb (l % home) 0 ≡ false
away-before home l some before = grind (arith, mod-eq_of_lt, cases_Bool, eqb, eqb-true)

pub home-at : (home : ℕ) → 0 < home → eqb ((home - 1 + 1) % home) 0 ≡ true
home-at home some = eq-eqb ((home - 1 + 1) % home) 0 (times-to home (home - 1 + 1) 1 (omega (arith, some)))

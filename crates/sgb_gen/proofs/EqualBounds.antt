-- Pairs of places with equal bounds: as many vectors of a bounded sum let a unit go between them.
use Rattle.std.proofs.Common.{◌≡◌, ℕ, zero, suc, ◌-◌, ◌<◌, List, [], ◌∷◌, length, get_or, set, refl, sym, ap, ◌∙◌, arith, length-set}
use Rattle.std.specs.List.{remove}
use Rattle.std.proofs.lemmas.Bool.{cases_lt}
use Rattle.std.proofs.lemmas.List.{get_or-set_same, get_or-set_other}
use Rattle.std.proofs.lemmas.List.Edits.{get_or-remove_below, length-remove}
use Rattle.sgb_vec.specs.Sums.{BoundedSum}
use Rattle.sgb_gen.specs.inner.KeptCounts.{count_of_sum}
use Rattle.sgb_vec.proofs.SumCounts.{count_of_sum-cons, count_of_sum-remove}
use Rattle.sgb_vec.proofs.Windows.{window, window_same}
use Rattle.sgb_gen.specs.Simplexes.{Places}
use Rattle.sgb_gen.specs.inner.SimplexCounts.{lowered, shifts_count}
use Rattle.sgb_gen.proofs.SimplexCounts.{shifts-lowered, shifts-none}

-- ---- sequences with equal windows are equal

once_below : (b : ℕ) (f g : ℕ → ℕ) → ((k : ℕ) → window b f k ≡ window b g k) → (n k : ℕ) → k < n → f k ≡ g k
once_below b f g e zero k h = absurd (omega (arith, h))
once_below zero f g e (suc n) k h = e k
once_below (suc b) f g e (suc n) zero h = omega (arith, e 0)
once_below (suc b) f g e (suc n) (suc k) h =
    let before : window b f k ≡ window b g k = window_same b f g k (λ i low. once_below (suc b) f g e n i (omega (arith, h, low))) in
    omega (arith, e (suc k), before)

once : (b : ℕ) (f g : ℕ → ℕ) → ((k : ℕ) → window b f k ≡ window b g k) → (k : ℕ) → f k ≡ g k
once b f g e k = once_below b f g e (suc k) k (omega arith)

-- ---- one bound taken out

remove-set_same : (xs : List ℕ) (i c : ℕ) → i < length xs → remove (set xs i c) i ≡ remove xs i
remove-set_same [] i c h = absurd (omega arith)
remove-set_same (x ∷ xs) zero c h = refl
remove-set_same (x ∷ xs) (suc i) c h = ap (λ ys. x ∷ ys) (remove-set_same xs i c (omega (arith, h)))

remove-set_before : (xs : List ℕ) (i j c : ℕ) → i < j → j < length xs → remove (set xs i c) j ≡ set (remove xs j) i c
remove-set_before [] i j c o h = absurd (omega arith)
remove-set_before (x ∷ xs) i zero c o h = absurd (omega (arith, o))
remove-set_before (x ∷ xs) zero (suc j) c o h = refl
remove-set_before (x ∷ xs) (suc i) (suc j) c o h = ap (λ ys. x ∷ ys) (remove-set_before xs i j c (omega (arith, o)) (omega (arith, h)))

-- a bound sums the counts of the others over a window, whatever is put in its place
count-own : (xs : List ℕ) (i k : ℕ) → i < length xs → count_of_sum k xs ≡ window (get_or xs i 0) (λ j. count_of_sum j (remove xs i)) k
count-own xs i k h = count_of_sum-remove xs i k h ∙ count_of_sum-cons (get_or xs i 0) (remove xs i) k

count-set : (xs : List ℕ) (i c k : ℕ) → i < length xs → count_of_sum k (set xs i c) ≡ window c (λ j. count_of_sum j (remove xs i)) k
count-set xs i c k h =
    cc (count_of_sum-remove (set xs i c) i k (omega (arith, length-set xs i c, h)), get_or-set_same xs i c 0 h, remove-set_same xs i c h, count_of_sum-cons c (remove xs i) k)

-- ---- two bounds taken out

module _ (bounds : List ℕ) (at : Places) (order : at.lower < at.higher) (within : at.higher < length bounds) where
  abbrev low : ℕ
  low = get_or bounds at.lower 0

  abbrev high : ℕ
  high = get_or bounds at.higher 0

  abbrev one_out : List ℕ
  one_out = remove bounds at.higher

  -- the counts of the other bounds
  abbrev others : ℕ → ℕ
  others j = count_of_sum j (remove one_out at.lower)

  below : at.lower < length one_out
  below = omega (arith, length-remove bounds at.higher within, order, within)

  count-two : (k : ℕ) → count_of_sum k bounds ≡ window high (window low others) k
  count-two k =
      count-own bounds at.higher k within
      ∙ window_same high (λ j. count_of_sum j one_out) (window low others) k
      (λ j _. count-own one_out at.lower j below ∙ ap (λ b. window b others j) (get_or-remove_below bounds at.higher 0 at.lower order within))

  count-two_less : (k : ℕ) → count_of_sum k (lowered bounds at) ≡ window (high - 1) (window (low - 1) others) k
  count-two_less k = grind (arith, length-set, get_or-set_other, count-set, window, window_same, remove-set_before, below)

-- ---- two pairs of places

module _ (bounds : List ℕ) (p q : Places) (order_p : p.lower < p.higher) (within_p : p.higher < length bounds) (order_q : q.lower < q.higher) (within_q : q.higher < length bounds) (same_low : get_or bounds p.lower 0 ≡ get_or bounds q.lower 0) (same_high : get_or bounds p.higher 0 ≡ get_or bounds q.higher 0) where
  abbrev of_p : ℕ → ℕ
  of_p = others bounds p order_p within_p

  abbrev of_q : ℕ → ℕ
  of_q = others bounds q order_q within_q

  abbrev a : ℕ
  a = get_or bounds p.lower 0

  abbrev b : ℕ
  b = get_or bounds p.higher 0

  same_others : (k : ℕ) → of_p k ≡ of_q k
  same_others =
      once a of_p of_q (once b (window a of_p) (window a of_q)
      (λ k. sym (count-two bounds p order_p within_p k) ∙ count-two bounds q order_q within_q k
      ∙ ap (λ n. window n (window (get_or bounds q.lower 0) of_q) k) (sym same_high) ∙ ap (λ n. window b (window n of_q) k) (sym same_low)))

  same_lowered : (k : ℕ) → count_of_sum k (lowered bounds p) ≡ count_of_sum k (lowered bounds q)
  same_lowered k = grind (arith, count-two_less, window_same, window, same_others)

-- between places with equal bounds a unit goes from as many vectors
pub shifts-same : (s : BoundedSum) (p q : Places) → p.lower < p.higher → p.higher < length s.bounds → q.lower < q.higher → q.higher < length s.bounds → get_or s.bounds p.lower 0 ≡ get_or s.bounds q.lower 0 → get_or s.bounds p.higher 0 ≡ get_or s.bounds q.higher 0 → shifts_count s p ≡ shifts_count s q
shifts-same s p q order_p within_p order_q within_q same_low same_high = grind (arith, cases_lt, shifts-none, shifts-lowered, same_lowered)

-- A cycle of random numbers, the next one, and the numbers of the sequence that they are.
use Rattle.sgb_vec.proofs.Common.{rules, ◌≡◌, ◌≢◌, refl, ◌%◌, ℕ, ◌+◌, ◌-◌, ◌<◌, ◌≤◌, List, length, get_or, set, ap, sym, ◌∙◌, inl, inr, arith, length-set, get_or-set_same, get_or-set_other, cases_eq, cases_lt}
use Rattle.sgb_graph.specs.Draws.{modulus, difference, x_number}
use Rattle.sgb_graph.specs.inner.Flips.{IsCycle, IsNextCycle}
use Rattle.sgb_graph.specs.inner.Jumps.{IsPartOf}
use Rattle.sgb_graph.proofs.DrawLemmas.{later_number}

-- a difference is below 2^31
pub difference_below : (a b : ℕ) → difference a b < modulus
difference_below a b = omega arith

-- a cycle with one number changed
pub cycle_with : (numbers : List ℕ) (i x : ℕ) → IsCycle numbers → x < modulus → IsCycle (set numbers i x)
cycle_with numbers i x is small = search (rules, length-set, cases_eq, get_or-set_same, get_or-set_other)

-- the first n numbers are those of the next cycle, the others those of the old one
pub record IsCycling (old now : List ℕ) (n : ℕ) : Type 0 where
  pub cycle : IsCycle now
  pub early : (i : ℕ) → i < n → i < 24 → get_or now i 0 ≡ difference (get_or old i 0) (get_or old (i + 31) 0)
  pub late : (i : ℕ) → i < n → 24 ≤ i → get_or now i 0 ≡ difference (get_or old i 0) (get_or now (i - 24) 0)
  pub rest : (i : ℕ) → n ≤ i → get_or now i 0 ≡ get_or old i 0

-- one number more
pub cycling_more :
    (old now : List ℕ) (n x : ℕ) → IsCycling old now n → n < 55 → x ≡ difference (get_or now n 0) (get_or now ((n + 31) % 55) 0) → IsCycling old (set now n x) (n + 1)
cycling_more old now n x is inside e =
    let fits : n < length now = omega (arith, is.cycle.many) in
    let here : get_or (set now n x) n 0 ≡ x = get_or-set_same now n x 0 fits in
    let old_one : get_or now n 0 ≡ get_or old n 0 = is.rest n (omega arith) in
    let first : n < 24 → x ≡ difference (get_or old n 0) (get_or old (n + 31) 0) = λ small.
    let place : (n + 31) % 55 ≡ n + 31 = omega arith in
    e ∙ (rw (place, old_one, is.rest (n + 31) (omega arith)) refl) in
    let later : 24 ≤ n → x ≡ difference (get_or old n 0) (get_or now (n - 24) 0) = λ great.
    let place : (n + 31) % 55 ≡ n - 24 = omega arith in
    e ∙ (rw (place, old_one) refl) in
    let others : (j : ℕ) → j ≢ n → get_or (set now n x) j 0 ≡ get_or now j 0 = λ j other. get_or-set_other now n j x 0 other in
    record {
      cycle = cycle_with now n x is.cycle (rw e (difference_below (get_or now n 0) (get_or now ((n + 31) % 55) 0)));
      early = λ j below small. elim (cases_eq j n) [
        | inl same ↦ rw same (here ∙ first (omega arith))
        | inr other ↦ others j other ∙ is.early j (omega arith) small
      ];
      late = λ j below great. elim (cases_eq j n) [
        | inl same ↦ rw same (here ∙ (later (omega arith) ∙ ap (difference (get_or old n 0)) (sym (others (n - 24) (omega arith)))))
        | inr other ↦ others j other ∙ (is.late j (omega arith) great ∙ ap (difference (get_or old j 0)) (sym (others (j - 24) (omega arith))))
      ];
      rest = λ j past. others j (omega arith) ∙ is.rest j (omega arith);
    }

-- the numbers are X(n + 1) to X(n + 55)
pub record IsWindow (seed n : ℕ) (numbers : List ℕ) : Type 0 where
  pub at : (i : ℕ) → i < 55 → get_or numbers i 0 ≡ x_number seed (n + (i + 1))

-- the same of the sequence of X(1), X(2), ..
pub window_part : (seed n : ℕ) (numbers : List ℕ) → IsWindow seed n numbers → IsPartOf (λ j. x_number seed (j + 1)) n numbers
window_part seed n numbers is = grind (arith)

pub part_window : (seed n : ℕ) (numbers : List ℕ) → IsPartOf (λ j. x_number seed (j + 1)) n numbers → IsWindow seed n numbers
part_window seed n numbers is = grind (arith)

-- its rule
pub numbers_rule : (seed j : ℕ) → x_number seed (j + 55 + 1) ≡ difference (x_number seed (j + 1)) (x_number seed (j + 31 + 1))
numbers_rule seed j = grind (arith, later_number)

-- the numbers of the next cycle come after those of a cycle in each sequence with the rule
pub next_part : (y : ℕ → ℕ) (n : ℕ) (old new : List ℕ) → ((j : ℕ) → y (j + 55) ≡ difference (y j) (y (j + 31))) → IsPartOf y n old → IsNextCycle old new → IsPartOf y (n + 55) new
next_part y n old new rule is next =
    let After : ℕ → Type 0 = λ i. get_or new i 0 ≡ y (n + 55 + i) in
    let rule_at : (i : ℕ) → y (n + 55 + i) ≡ difference (y (n + i)) (y (n + (i + 31))) = λ i.
    ap y (omega arith) ∙ (rule (n + i) ∙ ap (λ (p : ℕ). difference (y (n + i)) (y p)) (omega arith)) in
    let first_24 : (i : ℕ) → i < 24 → After i = λ i small.
    next.early i small ∙ (rw (is.at i (omega arith), is.at (i + 31) (omega arith)) (sym (rule_at i))) in
    let later : (i : ℕ) → 24 ≤ i → i < 55 → After (i - 24) → After i = λ i great inside before.
    let place : n + 55 + (i - 24) ≡ n + (i + 31) = omega arith in
    next.late i great inside ∙ (rw (is.at i inside, before, place) (sym (rule_at i))) in
    record {
      at = λ i inside. elim (cases_lt i 24) [
        | inl small ↦ first_24 i small
        | inr great ↦ later i great inside (elim (cases_lt i 48) [
          | inl small ↦ first_24 (i - 24) (omega arith)
          | inr high ↦ later (i - 24) (omega arith) (omega arith) (first_24 (i - 24 - 24) (omega arith))
        ])
      ];
    }

-- and so among the random numbers
pub next_window : (seed n : ℕ) (old new : List ℕ) → IsWindow seed n old → IsNextCycle old new → IsWindow seed (n + 55) new
next_window seed n old new is next =
    part_window seed (n + 55) new (next_part (λ j. x_number seed (j + 1)) n old new (numbers_rule seed) (window_part seed n old is) next)

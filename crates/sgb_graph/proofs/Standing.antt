-- A generator that stands at a draw, and the draw that it hands out.
use Rattle.sgb_vec.proofs.Common.{◌≡◌, ℕ, ℤ, ◌+◌, ◌-◌, ◌*◌, ◌/◌, ◌%◌, ◌<◌, ◌≤◌, List, length, map, get_or, ap, sym, ◌∙◌, subst, inl, inr, arith, range_with_len, cases_lt, ext_get_or, get_or-map-range_with_len, length-map-range_with_len}
use Rattle.sgb_graph.specs.Draws.{IsUniformDraw, IsAtDraw, bound_below, draw, modulus, seed_of, x_number}
use Rattle.sgb_graph.specs.inner.Flips.{HandsOut, IsCycle, IsFirstCycle, IsNextCycle}
use Rattle.sgb_graph.proofs.DrawLemmas.{first_number}
use Rattle.sgb_graph.specs.inner.Jumps.{HasJumped}
use Rattle.sgb_graph.proofs.Cycles.{IsWindow, next_window}
use Rattle.sgb_graph.proofs.Jumps.{window_jumped}

-- what stands at a place of the values from 1 on
value_at : (f : ℕ → ℕ) (many : ℕ) (xs : List ℕ) (i : ℕ) → xs ≡ map f (range_with_len 1 many) → i < many → get_or xs i 0 ≡ f (i + 1)
value_at f many xs i e inside = rw e (get_or-map-range_with_len f 1 many i (i + 1) 0 inside (omega arith))

-- a list with these values at its places
from_values : (f : ℕ → ℕ) (many : ℕ) (xs : List ℕ) → length xs ≡ many → ((i : ℕ) → i < many → get_or xs i 0 ≡ f (i + 1)) → xs ≡ map f (range_with_len 1 many)
from_values f many xs long at =
    ext_get_or 0 xs (map f (range_with_len 1 many)) (long ∙ sym (length-map-range_with_len f 1 many))
    (λ i inside. let below : i < many = omega arith in at i below ∙ sym (get_or-map-range_with_len f 1 many i (i + 1) 0 below (omega arith)))

-- a generator that stands at draw k holds the numbers of a cycle
pub stands_window : (start : ℤ) (k : ℕ) (numbers : List ℕ) (left : ℕ) → IsAtDraw start k numbers left → IsWindow (seed_of start) (55 * (5 + k / 55)) numbers
stands_window start k numbers left stands = record {
  at = λ i inside. value_at (λ j. x_number (seed_of start) (55 * (5 + k / 55) + j)) 55 numbers i stands.cycle inside;
}

-- and one that holds them stands there
pub window_stands : (start : ℤ) (k n : ℕ) (numbers : List ℕ) (left : ℕ) → IsCycle numbers → IsWindow (seed_of start) n numbers → n ≡ 55 * (5 + k / 55) → left ≡ 54 - k % 55 → IsAtDraw start k numbers left
window_stands start k n numbers left is window place still = record {
  cycle = from_values (λ j. x_number (seed_of start) (55 * (5 + k / 55) + j)) 55 numbers is.many
      (λ i inside. window.at i inside ∙ ap (λ p. x_number (seed_of start) (p + (i + 1))) place);
  still = still;
}

-- the first cycle has X(1) to X(55)
pub first_window : (seed : ℕ) (numbers : List ℕ) → IsFirstCycle seed numbers → IsWindow seed 0 numbers
first_window seed numbers is = record {
  at = λ i inside. let place : 0 + (i + 1) ≡ i + 1 = omega arith in is.value i inside ∙ (sym (first_number seed i inside) ∙ ap (λ p. x_number seed p) (sym place));
}

-- what was handed out is draw k, and the generator stands at the next one then
pub record HandsOutDraw (start : ℤ) (k result : ℕ) (new : List ℕ) (left : ℕ) : Type 0 where
  pub value : result ≡ draw (seed_of start) k
  pub stands : IsAtDraw start (k + 1) new left

-- a number of the sequence by its place in the cycle
placed : (seed n m p : ℕ) (numbers : List ℕ) (result : ℕ) → IsWindow seed n numbers → p < 55 → result ≡ get_or numbers p 0 → n + (p + 1) ≡ m → result ≡ x_number seed m
placed seed n m p numbers result window inside is place = is ∙ (window.at p inside ∙ ap (λ q. x_number seed q) place)

-- a generator that stands at a draw hands it out
pub hands_out_draw : (start : ℤ) (k : ℕ) (old : List ℕ) (left result : ℕ) (new : List ℕ) (left_after : ℕ) → IsAtDraw start k old left → HandsOut old left result new left_after → HandsOutDraw start k result new left_after
hands_out_draw start k old left result new left_after stands out =
    let still = stands.still in
    let window = stands_window start k old left stands in
    let given : (n : ℕ) → IsWindow (seed_of start) n new → n ≡ 55 * (5 + (k + 1) / 55) → left_after ≡ 54 - (k + 1) % 55 → HandsOutDraw start k result new left_after = λ n now at last. record {
      value = placed (seed_of start) n (55 * (5 + (k + 1) / 55) + 55 - (k + 1) % 55) left_after new result now (omega arith) out.value (omega arith);
      stands = window_stands start (k + 1) n new left_after out.flip.cycle now at last;
    } in
    elim (cases_lt 0 left) [
      | inl some ↦
          let step = out.inside (omega arith) in
          given (55 * (5 + k / 55)) (rw step.0 window) (omega (arith, step.1)) (omega (arith, step.1))
      | inr none ↦
          let step = out.at_end (omega arith) in
          given (55 * (5 + k / 55) + 55) (next_window (seed_of start) (55 * (5 + k / 55)) old new window step.0) (omega (arith, step.1)) (omega (arith, step.1))
    ]

-- so many draws left out, where those behind whole cycles are still to come
pub skips_inside : (start : ℤ) (k count : ℕ) (old : List ℕ) (left : ℕ) (new : List ℕ) → IsCycle old → IsAtDraw start k old left → HasJumped old (55 * (count / 55)) new → count % 55 ≤ left
    → IsAtDraw start (k + count) new (left - count % 55)
skips_inside start k count old left new cycle stands jump few =
    let window = window_jumped (seed_of start) (55 * (5 + k / 55)) (55 * (count / 55)) old new cycle (stands_window start k old left stands) jump in
    grind (arith, stands, window_stands, window, window)

-- and where they lead to one cycle more
pub skips_over : (start : ℤ) (k count : ℕ) (old : List ℕ) (left : ℕ) (new next : List ℕ) → IsCycle old → IsAtDraw start k old left → HasJumped old (55 * (count / 55)) new → IsNextCycle new next → left < count % 55
    → IsAtDraw start (k + count) next (left + 55 - count % 55)
skips_over start k count old left new next cycle stands jump follows many =
    let still = stands.still in
    let window = window_jumped (seed_of start) (55 * (5 + k / 55)) (55 * (count / 55)) old new cycle (stands_window start k old left stands) jump in
    let window_now = next_window (seed_of start) (55 * (5 + k / 55) + 55 * (count / 55)) new next window follows in
    window_stands start (k + count) (55 * (5 + k / 55) + 55 * (count / 55) + 55) next (left + 55 - count % 55) follows.cycle window_now (omega arith) (omega arith)

-- what is handed out is below 2^31
pub result_below : (old : List ℕ) (left result : ℕ) (new : List ℕ) (left_after : ℕ) → HandsOut old left result new left_after → result < modulus
result_below old left result new left_after out = grind (arith)

-- a cycle that has the numbers X(n + 1) to X(n + 55)
pub record IsCycleFrom (seed n : ℕ) (numbers : List ℕ) : Type 0 where
  pub cycle : IsCycle numbers
  pub window : IsWindow seed n numbers

-- the first one
pub cycle_from_first : (seed : ℕ) (numbers : List ℕ) → IsFirstCycle seed numbers → IsCycleFrom seed 0 numbers
cycle_from_first seed numbers is = record { cycle = is.cycle; window = first_window seed numbers is }

-- the next one
pub cycle_from_next : (seed j : ℕ) (old new : List ℕ) → IsCycleFrom seed (55 * j) old → IsNextCycle old new → IsCycleFrom seed (55 * (j + 1)) new
cycle_from_next seed j old new is next =
    let place : 55 * j + 55 ≡ 55 * (j + 1) = omega arith in
    record { cycle = next.cycle; window = subst (λ n. IsWindow seed n new) place (next_window seed (55 * j) old new is.window next) }

-- after five of them a generator stands at draw 0
pub starts : (start : ℤ) (numbers : List ℕ) → IsCycleFrom (seed_of start) (55 * 5) numbers → IsAtDraw start 0 numbers 54
starts start numbers is = window_stands start 0 (55 * 5) numbers 54 is.cycle is.window (omega arith) (omega arith)

-- the draws from k on were thrown away, and the generator stands at the next one
pub record HasThrownAway (start : ℤ) (m k : ℕ) (numbers : List ℕ) (left : ℕ) : Type 0 where
  pub next : ℕ
  pub from_place : k ≤ next
  pub thrown_away : (t : ℕ) → k ≤ t → t < next → bound_below m ≤ draw (seed_of start) t
  pub stands : IsAtDraw start next numbers left

-- one more
pub thrown_more : (start : ℤ) (m k : ℕ) (old : List ℕ) (left result : ℕ) (new : List ℕ) (left_after : ℕ) → HasThrownAway start m k old left → HandsOut old left result new left_after → bound_below m ≤ result → HasThrownAway start m k new left_after
thrown_more start m k old left result new left_after has out above =
    let drawn = hands_out_draw start has.next old left result new left_after has.stands out in
    let here : bound_below m ≤ draw (seed_of start) has.next = subst (λ x. bound_below m ≤ x) drawn.value above in
    record {
      next = has.next + 1;
      from_place = omega (arith, has.from_place);
      thrown_away = λ t low high. elim (cases_lt t has.next) [
        | inl before ↦ has.thrown_away t low before
        | inr at ↦ grind (arith)
      ];
      stands = drawn.stands;
    }

-- the uniform draw, and that the generator stands after the draw that it is made of
pub uniform_taken : (start : ℤ) (m k : ℕ) (old : List ℕ) (left result : ℕ) (new : List ℕ) (left_after : ℕ) → HasThrownAway start m k old left → HandsOut old left result new left_after → result < bound_below m
    → (last : ℕ) × IsUniformDraw (seed_of start) m k (result % m) last × IsAtDraw start (last + 1) new left_after
uniform_taken start m k old left result new left_after has out below =
    let drawn = hands_out_draw start has.next old left result new left_after has.stands out in
    grind (arith, drawn)

-- How long a generator may hand out numbers from a bound on, where that bound is above 2^30.
use Rattle.sgb_vec.proofs.Common.{rules, ◌≡◌, ℕ, ◌+◌, ◌-◌, ◌*◌, ◌^◌, ◌<◌, ◌≤◌, Bool, ◌&&◌, ◌||◌, cond, List, get_or, inl, inr, arith, ltb, leb, cases_lt, cases_Bool, cond-true, cond-false, cond_both, or_cases, or_parts, or_left, or_right, and_parts, and_from, ltb-true, ltb-false, leb-true, lt-ltb, le-leb, le-div, mod_below, div-add-mod, mul-le-mul_left}
use Rattle.sgb_graph.specs.Draws.{modulus, difference, bound_below}
use Rattle.sgb_graph.specs.inner.Flips.{HandsOut, IsNextCycle}

-- the bound of a uniform draw is above 2^30
pub bound_above : (m : ℕ) → 1 ≤ m → m ≤ modulus → 2 ^ 30 < bound_below m
bound_above m some small = grind (arith, le-div, mod_below, div-add-mod, mul-le-mul_left)

-- numbers 1 and 32 of a cycle make number 1 of the next one: where none of the three is below such a bound, it
-- is greater than the number in its place
first_rises : (bound first other : ℕ) → 2 ^ 30 < bound → first < modulus → other < modulus → bound ≤ first → bound ≤ other → bound ≤ difference first other → first < difference first other
first_rises bound first other high first_small other_small one two three = omega arith

-- so at most so many cycles are thrown away whole from one with these numbers 1 and 32 on
abbrev pub cycles_left : (bound first other : ℕ) → ℕ
cycles_left bound first other = cond (leb bound first && leb bound other) (modulus + 1 - first) 0

-- where neither of them is below the bound
cycles_if_good : (bound first other : ℕ) → bound ≤ first → bound ≤ other → cycles_left bound first other ≡ modulus + 1 - first
cycles_if_good bound first other one two =
    cond-true (leb bound first && leb bound other) (modulus + 1 - first) 0 (and_from (leb bound first) (leb bound other) (le-leb bound first one) (le-leb bound other two))

-- there are fewer after the next cycle
fewer_cycles : (bound first other next_other : ℕ) → 2 ^ 30 < bound → first < modulus → other < modulus → bound ≤ first → bound ≤ other
    → cycles_left bound (difference first other) next_other < cycles_left bound first other
fewer_cycles bound first other next_other high first_small other_small one two = search (rules, cycles_if_good, cond_both, leb-true, and_parts, first_rises)

-- number 1 or 32, where it is below the bound, is still to come in this cycle
abbrev pub stops_within : (bound first other left : ℕ) → Bool
stops_within bound first other left = (ltb 0 left && ltb first bound) || (ltb 31 left && ltb other bound)

-- a bound of how many numbers come before one below the bound: in this cycle, in the next one and in those after it
abbrev pub waiting_of : (bound first other next_first next_other left : ℕ) → ℕ
waiting_of bound first other next_first next_other left =
    cond (stops_within bound first other left) left (left + 55 + 55 * cycles_left bound next_first next_other)

-- one number less, which was not below the bound
waiting_on : (bound first other next_first next_other left : ℕ) → 0 < left → (left ≡ 1 → bound ≤ first) → (left ≡ 32 → bound ≤ other)
    → waiting_of bound first other next_first next_other (left - 1) < waiting_of bound first other next_first next_other left
waiting_on bound first other next_first next_other left some not_first not_other = grind (arith, cases_Bool, stops_within, waiting_of, or_cases, and_parts, ltb-true, or_left, and_from, lt-ltb, or_right, cond-true, cycles_left, cond-false, cond_both)

-- a cycle more
waiting_next : (bound old_first old_other first other next_other : ℕ) → 2 ^ 30 < bound → first < modulus → other < modulus
    → waiting_of bound first other (difference first other) next_other 54 < waiting_of bound old_first old_other first other 0
waiting_next bound old_first old_other first other next_other high first_small other_small = search (rules, cond_both, or_parts, fewer_cycles, ltb-false)

-- by the numbers of the cycle
abbrev pub waiting : (bound : ℕ) (numbers : List ℕ) (left : ℕ) → ℕ
waiting bound numbers left =
    waiting_of bound (get_or numbers 0 0) (get_or numbers 31 0) (difference (get_or numbers 0 0) (get_or numbers 31 0))
    (difference (get_or numbers 31 0) (difference (get_or numbers 7 0) (get_or numbers 38 0))) left

-- each number that is handed out and not below the bound brings the end nearer
pub waiting_falls : (bound : ℕ) (old : List ℕ) (left result : ℕ) (new : List ℕ) (left_after : ℕ) → 2 ^ 30 < bound → HandsOut old left result new left_after → bound ≤ result
    → waiting bound new left_after < waiting bound old left
waiting_falls bound old left result new left_after high out above =
    let first_after = difference (get_or old 0 0) (get_or old 31 0) in
    let other_after = difference (get_or old 31 0) (difference (get_or old 7 0) (get_or old 38 0)) in
    elim (cases_lt 0 left) [
      | inl some ↦ grind (arith, waiting_on, waiting)
      | inr none ↦
          let step = out.at_end (omega arith) in
          let next : IsNextCycle old new = step.0 in
          let first_is : get_or new 0 0 ≡ first_after = next.early 0 (omega arith) in
          let other_is : get_or new 31 0 ≡ other_after = grind (arith) in
          let nearer = waiting_next bound (get_or old 0 0) (get_or old 31 0) (get_or new 0 0) (get_or new 31 0)
          (difference (get_or new 31 0) (difference (get_or new 7 0) (get_or new 38 0))) high (next.cycle.below 0 (omega arith)) (next.cycle.below 31 (omega arith)) in
          grind (arith, waiting_of, waiting, step, first_is, other_is, nearer)
    ]

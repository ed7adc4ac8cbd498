-- Of 1760 draws in a row one is below the bound of a uniform draw, so that each uniform draw is found.
use Rattle.sgb_vec.proofs.Common.{rules, arith, ap, subst, ◌≡◌, ℕ, zero, suc, ◌+◌, ◌-◌, ◌*◌, ◌/◌, ◌%◌, ◌^◌, ◌<◌, ◌≤◌, Option, Some, None, find, nat_lt, unwrap_or, refl, range_with_len, two-pow-succ, cases_lt, Decides-ltb}
use Rattle.sgb_graph.specs.Draws.{modulus, difference, x_number, draw, bound_below, IsUniformDraw, first_taken, most_tried, used_draw}
use Rattle.sgb_graph.proofs.Cycles.{difference_below}
use Rattle.sgb_graph.proofs.DrawLemmas.{later_number, found_first}
use Rattle.sgb_graph.proofs.Waiting.{bound_above}

-- a number, its difference to another and that other one, none below such a bound: the number is as far below
-- 2^31 as both others together
further_below : (bound first other next far : ℕ) → 2 ^ 30 < bound → first < modulus → other < modulus → bound ≤ first → bound ≤ other → bound ≤ next
    → next ≡ difference first other → far ≤ modulus - next → far ≤ modulus - other → far + far ≤ modulus - first
further_below bound first other next far high first_small other_small one two three is far_next far_other = omega arith

-- numbers of which each is below 2^31, and each later one is the 55th before it less the 24th before it
record IsSequence (x : ℕ → ℕ) (base : ℕ) : Type 0 where
  small : (n : ℕ) → base ≤ n → x n < modulus
  rule : (n : ℕ) → base ≤ n → x (n + 55) ≡ difference (x n) (x (n + 31))

-- where none up to a last one is below such a bound, those 55 j places before it are 2^j below 2^31
far_below : (x : ℕ → ℕ) (bound base last : ℕ) → 2 ^ 30 < bound → IsSequence x base → ((n : ℕ) → base ≤ n → n ≤ last → bound ≤ x n)
    → (j n : ℕ) → base ≤ n → n + 55 * j ≤ last → 2 ^ j ≤ modulus - x n
far_below x bound base last high is above zero n low inside = omega (arith, is.small n low)
far_below x bound base last high is above (suc j) n low inside =
    let next = far_below x bound base last high is above j (n + 55) (omega arith) (omega arith) in
    let other = far_below x bound base last high is above j (n + 31) (omega arith) (omega arith) in
    let more = further_below bound (x n) (x (n + 31)) (x (n + 55)) (2 ^ j) high (is.small n low) (is.small (n + 31) (omega arith))
    (above n low (omega arith)) (above (n + 31) (omega arith) (omega arith)) (above (n + 55) (omega arith) (omega arith)) (is.rule n low) next other in
    omega (arith, more, two-pow-succ j)

-- so of 1651 numbers in a row one is below the bound
one_below : (x : ℕ → ℕ) (bound base : ℕ) → 2 ^ 30 < bound → IsSequence x base → ¬ ((n : ℕ) → base ≤ n → n ≤ base + 1650 → bound ≤ x n)
one_below x bound base high is above =
    let far = far_below x bound base (base + 1650) high is above 30 base (omega arith) (omega arith) in
    grind (arith, far)

-- the numbers after the first cycle are such
sequence_from : (seed base : ℕ) → 55 < base → IsSequence (x_number seed) base
sequence_from seed base after = record {
  small = λ n low. rw (later_number seed n (omega arith)) (difference_below (x_number seed (n - 55)) (x_number seed (n - 24)));
  rule = grind (arith, later_number);
}

-- each number from X(331) on is a draw
abbrev draw_of : ℕ → ℕ
draw_of n = 55 * ((n - 1) / 55 - 5) + 53 - (n - 1) % 55

is_draw_of : (seed n : ℕ) → 331 ≤ n → draw seed (draw_of n) ≡ x_number seed n
is_draw_of seed n high =
    ap (λ (i : ℕ). x_number seed i) (omega arith)

-- so of 1760 draws in a row one is below the bound
one_draw_below : (seed bound k : ℕ) → 2 ^ 30 < bound → ¬ ((t : ℕ) → k ≤ t → t < k + 1760 → bound ≤ draw seed t)
one_draw_below seed bound k high above =
    let base : ℕ = 55 * (6 + (k + 1) / 55) + 1 in
    one_below (x_number seed) bound base high (sequence_from seed base (omega arith)) (λ n low up.
    let drawn = above (draw_of n) (omega arith) (omega arith) in
    subst (λ x. bound ≤ x) (is_draw_of seed n (omega arith)) drawn)

-- where `find` finds none of the numbers from k on, the values there are not below the bound
found_none : (value : ℕ → ℕ) (bound many k : ℕ) → find (λ t. nat_lt (value t) bound) (range_with_len k many) ≡ None
    → (t : ℕ) → k ≤ t → t < k + many → bound ≤ value t
found_none value bound zero k e = λ t low up. absurd (omega arith)
found_none value bound (suc many) k e = grind (arith, cases_lt, Decides-ltb, found_none value bound many (k + 1))

-- a search that finds one gives the number that it finds
found_or : (found : Option ℕ) (other : ℕ) → ¬ (found ≡ None) → found ≡ Some (unwrap_or found other)
found_or found other some = grind (arith)

-- among so many draws the search for the one that a uniform draw takes finds it
pub used_draw_found : (seed m k : ℕ) → 1 ≤ m → m ≤ modulus → first_taken seed m k most_tried ≡ Some (used_draw seed m k)
used_draw_found seed m k some small =
    found_or (first_taken seed m k most_tried) k
    (λ none. one_draw_below seed (bound_below m) k (bound_above m some small) (found_none (draw seed) (bound_below m) most_tried k none))

-- the draw that a search finds makes the uniform draw
pub first_taken_makes : (seed m k many last : ℕ) → first_taken seed m k many ≡ Some last → IsUniformDraw seed m k (draw seed last % m) last
first_taken_makes seed m k many last e =
    let found = found_first (draw seed) (bound_below m) many k last e in
    record { from_place = found.from_place; taken = found.taken; thrown_away = found.passed_over; value = refl }

-- so the uniform draw below m from draw k on is this one
pub uniform_draw_taken : (seed m k : ℕ) → 1 ≤ m → m ≤ modulus → IsUniformDraw seed m k (draw seed (used_draw seed m k) % m) (used_draw seed m k)
uniform_draw_taken seed m k some small = first_taken_makes seed m k most_tried (used_draw seed m k) (used_draw_found seed m k some small)

-- of two uniform draws below m from draw k on the first is made of no later draw than the second
no_later : (seed m k one other last next : ℕ) → IsUniformDraw seed m k one last → IsUniformDraw seed m k other next → last ≤ next
no_later seed m k one other last next is also = search (rules, cases_lt)

-- and there is no other
pub uniform_draw_only : (seed m k number last : ℕ) → 1 ≤ m → m ≤ modulus → IsUniformDraw seed m k number last → (last ≡ used_draw seed m k) × (number ≡ draw seed last % m)
uniform_draw_only seed m k number last some small is =
    let taken = uniform_draw_taken seed m k some small in
    let low = no_later seed m k number (draw seed (used_draw seed m k) % m) last (used_draw seed m k) is taken in
    let high = no_later seed m k (draw seed (used_draw seed m k) % m) number (used_draw seed m k) last taken is in
    (omega (arith, low, high), is.value)

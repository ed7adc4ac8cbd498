-- Lemmas on the random numbers, and on the first draw that is not thrown away.
use Rattle.sgb_vec.proofs.Common.{arith, ap, sym, ◌∙◌, inl, inr, ◌≡◌, ℕ, zero, suc, ◌+◌, ◌-◌, ◌*◌, ◌%◌, ◌<◌, ◌≤◌, Bool, true, ◌&&◌, not, ◌||◌, Some, reverse, find, nat_lt, ◌==◌, refl, slice_index, list_all, range_with_len, add-suc, cases_lt, Decides-eqb, Decides-ltb, get_or-map}
use Rattle.sgb_graph.specs.Draws.{difference, back_to_first, x_number, y_number}
use Rattle.sgb_graph.specs.inner.Flips.{first_x}
use Rattle.sgb_graph.proofs.TestLemmas.{at_each_below, both_first, both_second, where_passes}

-- the number that stands j places back in a longer list is the first of the shorter one
pub back_by : (seed k j : ℕ) → slice_index (back_to_first seed (k + j)) j ≡ slice_index (back_to_first seed k) 0
unfolding back_to_first
back_by seed k zero = grind (arith)
back_by seed k (suc j) = rw add-suc (back_by seed k j)

-- past all later numbers stand the first ones
pub back_past : (seed k j : ℕ) → slice_index (back_to_first seed k) (k + j) ≡ slice_index (back_to_first seed 0) j
unfolding back_to_first
back_past seed zero j = grind (arith)
back_past seed (suc k) j = grind (arith, back_past seed k j)

-- a number by its list and its place there
pub number_in : (seed n k j : ℕ) → n - 55 ≡ k → 55 - n ≡ j → x_number seed n ≡ slice_index (back_to_first seed k) j
number_in seed n k j first place = rw (first, place)

-- what stands at a place of a list
pub number_at_place : (seed k j : ℕ) → j ≤ k + 54 → slice_index (back_to_first seed k) j ≡ x_number seed (55 + k - j)
number_at_place seed k j inside =
    elim (cases_lt k j) [
      | inl past ↦ grind (arith, back_past, number_in)
      | inr early ↦
          let i : ℕ = k - j in
          let whole : i + j ≡ k = omega arith in
          ap (λ (p : ℕ). slice_index (back_to_first seed p) j) (sym whole)
          ∙ (back_by seed i j ∙ sym (number_in seed (55 + k - j) i 0 (omega arith) (omega arith)))
    ]

-- each later number is a difference of earlier ones
pub later_number : (seed n : ℕ) → 55 < n → x_number seed n ≡ difference (x_number seed (n - 55)) (x_number seed (n - 24))
unfolding back_to_first
later_number seed n above =
    let k : ℕ = n - 56 in
    let here = number_in seed n (suc k) 0 (omega arith) (omega arith) in
    grind (arith, number_at_place, k, here)

-- the places of the first numbers, newest first
places_back : list_all (λ i. slice_index (reverse (range_with_len 1 55)) (55 - (i + 1)) == (i + 1)) (range_with_len 0 55) ≡ true
places_back = refl

-- number i, of the first 55, is Y(21 i mod 55)
pub first_number : (seed i : ℕ) → i < 55 → x_number seed (i + 1) ≡ first_x seed (i + 1)
unfolding back_to_first
first_number seed i below =
    let mapped = get_or-map (first_x seed) (reverse (range_with_len 1 55)) (55 - (i + 1)) 0 0 (omega arith) in
    let place = (Decides-eqb _ (i + 1)).0 (at_each_below (λ j. slice_index (reverse (range_with_len 1 55)) (55 - (j + 1)) == (j + 1)) 55 places_back i below) in
    grind (arith, number_in, mapped, place)

-- 21 times 21 k is k modulo 55
abbrev goes_back : ℕ → Bool
goes_back k = not (nat_lt 0 k) || (nat_lt (21 * k % 55 - 1) 55 && (21 * k % 55 - 1 + 1 == 21 * k % 55 && 21 * (21 * k % 55) % 55 == k))

each_goes_back : list_all goes_back (range_with_len 0 55) ≡ true
each_goes_back = refl

pub start_number : (seed k : ℕ) → 1 ≤ k → k ≤ 54 → x_number seed (21 * k % 55) ≡ y_number seed k
start_number seed k low high =
    let all = where_passes (nat_lt 0 k) _ (at_each_below goes_back 55 each_goes_back k (omega arith)) ((Decides-ltb 0 k).1 (omega arith)) in
    grind (arith, Decides-ltb, both_first, both_second, Decides-eqb, first_number, all)

-- the first of the numbers from k on at which a value is below a bound
pub record IsFirstBelow (value : ℕ → ℕ) (bound k last : ℕ) : Type 0 where
  pub from_place : k ≤ last
  pub taken : value last < bound
  pub passed_over : (t : ℕ) → k ≤ t → t < last → bound ≤ value t

-- what `find` finds among the numbers from k on
pub found_first : (value : ℕ → ℕ) (bound many k last : ℕ) → find (λ t. nat_lt (value t) bound) (range_with_len k many) ≡ Some last → IsFirstBelow value bound k last
found_first value bound zero k last e = absurd cc
found_first value bound (suc many) k last e = grind (arith, cases_lt, Decides-ltb, found_first value bound many (k + 1) last)

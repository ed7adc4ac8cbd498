-- Whether more vectors than a graph may have vertices add to some number, told from the rows of counts.
use Rattle.sgb_vec.proofs.Common.{rules, ◌≡◌, ℕ, suc, zero, ◌+◌, ◌-◌, ◌*◌, ◌<◌, ◌≤◌, Bool, true, false, List, ◌∷◌, length, take, sum, get_or, min, refl, ap, ◌∙◌, inl, inr, arith, All, list_any, range_with_len, remove, nat_lt, nat_le, ◌/◌, ◌⊎◌, cases_lt, lt-ltb, ltb-true, leb-true, and_parts, or_from, get_or_default, take_all, list_any_at, Any-from_list_any, length-range_with_len, get_or-range_with_len}
use Rattle.sgb_vec.specs.Limits.{most_vertices}
use Rattle.sgb_vec.specs.Sums.{has_great_count}
use Rattle.sgb_vec.specs.inner.SumRows.{CountsSums, HasGreatSum, count_of_sum, great_bound, has_great_three}
use Rattle.sgb_vec.proofs.SumCounts.{count_of_sum-nil, count_of_sum-cons, count_of_sum-remove, count_of_sum-take_le, counts_rise}
use Rattle.sgb_vec.proofs.Hills.{hill_top}
use Rattle.sgb_vec.proofs.Windows.{window, window_le, window_prefix, up_to, up_to_ones, up_to_le, up_to-suc, one_at_zero, window-one_at_zero_prefix, window-last_le}

-- a number in a range that passes
list_any-range : (p : ℕ → Bool) (a n k : ℕ) → a ≤ k → k < a + n → p k ≡ true → list_any p (range_with_len a n) ≡ true
list_any-range p a n k low high e =
    let place : k - a < n = omega arith in
    let here : get_or (range_with_len a n) (k - a) 0 ≡ k = omega (arith, get_or-range_with_len a n (k - a) 0 place) in
    list_any_at p (range_with_len a n) (k - a) 0 (omega (arith, length-range_with_len a n)) (ap p here ∙ e)

-- no number in a range that passes
list_any-range_none : (p : ℕ → Bool) (n a : ℕ) → ((k : ℕ) → a ≤ k → k < a + n → p k ≡ false) → list_any p (range_with_len a n) ≡ false
list_any-range_none p zero a none = refl
list_any-range_none p (suc n) a none =
    or_from (p a) (list_any p (range_with_len (a + 1) n)) (none a (omega arith) (omega arith)) (list_any-range_none p n (a + 1) (λ k low high. none k (omega arith) (omega arith)))

-- a row of counts of which none is too great
pub All-from_none : (row : List ℕ) → list_any (λ count. nat_lt most_vertices count) row ≡ false → All (λ count. count ≤ most_vertices) row
All-from_none row none = grind (arith, list_any_at)

-- a count too great in a row of the first bounds is one of all bounds
pub HasGreatSum-from_row : (n : ℕ) (row bounds : List ℕ) (j : ℕ) → CountsSums n row (take j bounds) → length row ≤ n + 1 → list_any (λ count. nat_lt most_vertices count) row ≡ true → HasGreatSum n bounds
HasGreatSum-from_row n row bounds j counts short great = search (rules, Any-from_list_any, get_or_default, ltb-true, count_of_sum-take_le)

-- two bounds more leave it too great
pub HasGreatSum-two : (n a b : ℕ) (others : List ℕ) → HasGreatSum n others → HasGreatSum n (a ∷ b ∷ others)
HasGreatSum-two n a b others h = grind (arith, count_of_sum-cons, window-last_le)

-- equal counts are too great for the same sum
pub HasGreatSum-same : (n : ℕ) (xs ys : List ℕ) → ((k : ℕ) → count_of_sum k ys ≡ count_of_sum k xs) → HasGreatSum n xs → HasGreatSum n ys
HasGreatSum-same n xs ys e h = record { at = h.at; low = h.low; great = omega (arith, h.great, e h.at) }

-- three great bounds: each triple of numbers that add to g is within them
three_great : (g a b c : ℕ) (f : ℕ → ℕ) → ((i : ℕ) → one_at_zero i ≤ f i) → g ≤ a → g ≤ b → g ≤ c → (g + 1) * (g + 2) ≤ 2 * window a (window b (window c f)) g
three_great g a b c f h la lb lc =
    let one : (i : ℕ) → i ≤ g → 1 ≤ window c f i = λ i l. omega (arith, window_le c one_at_zero f i (λ j _. h j), window-one_at_zero_prefix c i (omega arith)) in
    let two : (i : ℕ) → i ≤ g → i + 1 ≤ window b (window c f) i = λ i l. omega (arith, window_prefix b (window c f) i (omega arith), up_to_ones (window c f) i (λ j m. one j (omega arith))) in
    let more : up_to (λ i. i + 1) g ≤ up_to (window b (window c f)) g = up_to_le (λ i. i + 1) (window b (window c f)) g two in
    grind (arith, window_prefix, up_to-suc)

-- the zero vector alone
count_of_sum-ge : (bounds : List ℕ) (k : ℕ) → one_at_zero k ≤ count_of_sum k bounds
count_of_sum-ge bounds k = omega (arith, count_of_sum-nil k, count_of_sum-take_le bounds 0 k)

-- where there are three great bounds, great_bound has too many vectors
pub HasGreatSum-three : (n a b : ℕ) (others : List ℕ) → has_great_three n a b others ≡ true → HasGreatSum n (a ∷ b ∷ others)
HasGreatSum-three n a b others h =
    let parts = and_parts (nat_le great_bound (min (min n a) b)) (list_any (λ c. nat_le great_bound c) others) h in
    let low : great_bound ≤ min (min n a) b = leb-true great_bound (min (min n a) b) parts.0 in
    let found = Any-from_list_any (λ c. nat_le great_bound c) others parts.1 in
    let i : ℕ = found.0 in
    let c : ℕ = get_or others i 0 in
    let c_is : c ≡ found.1 = get_or_default others i 0 found.1 found.2 ∙ found.3 in
    let left = remove others i in
    let f : ℕ → ℕ = λ k. count_of_sum k left in
    let last : (k : ℕ) → count_of_sum k others ≡ window c f k = λ k. count_of_sum-remove others i k found.2 ∙ count_of_sum-cons c left k in
    let all : count_of_sum great_bound (a ∷ b ∷ others) ≡ window a (window b (window c f)) great_bound = grind (arith, count_of_sum-cons) in
    grind (arith, three_great, count_of_sum-ge, leb-true)

-- a sum with too many vectors
pub has_great_count-from_sum : (n : ℕ) (bounds : List ℕ) → 2 ≤ length bounds → HasGreatSum n bounds → has_great_count n bounds ≡ true
unfolding has_great_count
has_great_count-from_sum n bounds long h =
    let j : ℕ = length bounds - 1 in
    let all : take (j + 1) bounds ≡ bounds = take_all (j + 1) bounds (omega arith) in
    let above : most_vertices < count_of_sum h.at (take (j + 1) bounds) = omega (arith, h.great, ap (count_of_sum h.at) all) in
    let inner = list_any-range (λ i. nat_lt most_vertices (count_of_sum i (take (j + 1) bounds))) 0 (n + 1) h.at (omega arith) (omega (arith, h.low)) (lt-ltb most_vertices (count_of_sum h.at (take (j + 1) bounds)) above) in
    list_any-range (λ i. list_any (λ m. nat_lt most_vertices (count_of_sum m (take (i + 1) bounds))) (range_with_len 0 (n + 1))) 1 (length bounds - 1) j (omega arith) (omega arith) inner

-- no sum with too many: the greatest count is at half the sum of the bounds, or at n before it
pub has_great_count-none : (n m : ℕ) (bounds : List ℕ) → m ≡ min n (sum bounds / 2) → count_of_sum m bounds ≤ most_vertices → has_great_count n bounds ≡ false
unfolding has_great_count
has_great_count-none n m bounds top few =
    let f : ℕ → ℕ = λ k. count_of_sum k bounds in
    let side : m ≡ n ⊎ (sum bounds ≤ m + m + 1) = elim (cases_lt m n) [
      | inl before ↦ inr (omega arith)
      | inr same ↦ inl (omega arith)
    ] in
    let small : (j k : ℕ) → k ≤ n → count_of_sum k (take (j + 1) bounds) ≤ most_vertices = λ j k l.
    omega (arith, few, count_of_sum-take_le bounds (j + 1) k, hill_top f (sum bounds) (counts_rise bounds) n m k (omega arith) (omega arith) side l) in
    grind (arith, list_any-range_none)

-- of one bound or none no count is too great
pub has_great_count-few : (n : ℕ) (bounds : List ℕ) → length bounds < 2 → has_great_count n bounds ≡ false
unfolding has_great_count
has_great_count-few n bounds short = grind (arith)

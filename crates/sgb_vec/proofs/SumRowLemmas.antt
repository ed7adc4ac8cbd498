-- Rows of counts of a bounded sum: the row of no bounds, and what running sums and a difference make of a row.
use Rattle.sgb_vec.proofs.Common.{rules, ◌≡◌, ℕ, suc, zero, ◌+◌, ◌-◌, ◌*◌, ◌<◌, ◌≤◌, ◌^◌, List, [], ◌∷◌, ◌++◌, length, take, sum, get_or, min, replicate, set, refl, sym, ap, ◌∙◌, add-one, arith, All, cases_lt, get_or_append_left, get_or-append_right, get_or_past, take-append-le, take_all, take_more, All-nil, All-cons, sum_by-cons, sum_by_more, sum_by-le}
use Rattle.sgb_vec.specs.Limits.{most_vertices}
use Rattle.sgb_vec.specs.inner.SumRows.{CountsSums, count_of_sum}
use Rattle.sgb_vec.proofs.Windows.{up_to, window_prefix, window_after}
use Rattle.sgb_vec.proofs.SumCounts.{count_of_sum-nil, count_of_sum-snoc, count_of_sum-far, count_of_sum-pairs}
use Rattle.sgb_vec.proofs.Convolutions.{products_from, products_same, products_none}

-- the counts of no bounds
pub CountsSums-nil : (n : ℕ) → CountsSums n (1 ∷ []) []
CountsSums-nil n = grind (arith, count_of_sum-nil)

-- every entry of zeros, and what comes after them, is 0
get_or-zeros : (m k : ℕ) → get_or (replicate {A = ℕ} m 0) k 0 ≡ 0
get_or-zeros zero k = get_or_past [] k 0 (omega arith)
get_or-zeros (suc m) zero = refl
get_or-zeros (suc m) (suc k) = get_or-zeros m k

-- the sum of a short row of small counts fits 64 bits
pub sum_fits : (row : List ℕ) → length row ≤ most_vertices + 1 → All (λ count. count ≤ most_vertices) row → sum row < 2 ^ 64
sum_fits row short small = omega (arith, sum_by-le (λ x. x) most_vertices row small)

-- a longer prefix has at least the sum of a shorter one
pub sum-take_le : (i k : ℕ) (xs : List ℕ) → i ≤ k → sum (take i xs) ≤ sum (take k xs)
sum-take_le (suc i) zero xs h = absurd (omega arith)
sum-take_le (suc i) (suc k) (x ∷ xs) h =
    omega (arith, sum_by-cons (λ y. y) x (take i xs), sum_by-cons (λ y. y) x (take k xs), sum-take_le i k xs (omega arith))
sum-take_le _ _ _ h = omega arith

-- the sum of the entries up to place k
sum-take_up_to : (row : List ℕ) (f : ℕ → ℕ) (k : ℕ) → ((i : ℕ) → i < length row → get_or row i 0 ≡ f i) → k < length row → sum (take (k + 1) row) ≡ up_to f k
sum-take_up_to row f zero e h = omega (arith, sum_by_more (λ x. x) row 0 0 h, e 0 h)
sum-take_up_to row f (suc k) e h =
    let before : sum (take (suc k) row) ≡ up_to f k = ap (λ n. sum (take n row)) (sym (add-one k)) ∙ sum-take_up_to row f k e (omega arith) in
    omega (arith, sum_by_more (λ x. x) row (suc k) 0 h, e (suc k) h)

-- running sums, less those that stand b + 1 places before, are the counts of one more bound
pub CountsSums-snoc : (n : ℕ) (row sums next bounds : List ℕ) (b : ℕ) → CountsSums n row bounds → length row ≤ n + 1 → min n (sum (bounds ++ b ∷ [])) < length row → length sums ≡ length row → length next ≡ length row
    → ((k : ℕ) → k < length row → get_or sums k 0 ≡ sum (take (k + 1) row))
    → ((k : ℕ) → k < b + 1 → get_or next k 0 ≡ get_or sums k 0)
    → ((k : ℕ) → b + 1 ≤ k → k < length sums → get_or next k 0 + get_or sums (k - (b + 1)) 0 ≡ get_or sums k 0)
    → CountsSums n next (bounds ++ b ∷ [])
CountsSums-snoc n row sums next bounds b counts most whole long long_next running start after =
    let f : ℕ → ℕ = λ i. count_of_sum i bounds in
    let total : (i : ℕ) → i < length row → get_or sums i 0 ≡ up_to f i = λ i h. running i h ∙ sum-take_up_to row f i (λ j l. counts.at j (omega arith)) h in
    grind (arith, get_or_past, count_of_sum-far, window_prefix, count_of_sum-snoc, window_after)

-- zeros after the row change no count
pub CountsSums-filled : (n m : ℕ) (row bounds : List ℕ) → CountsSums n row bounds → CountsSums n (row ++ replicate m 0) bounds
CountsSums-filled n m row bounds counts = grind (arith, get_or_append_left, get_or-append_right, get_or-zeros, get_or_past)

-- zeros are small
zeros_small : (m : ℕ) → All (λ count. count ≤ most_vertices) (replicate m 0)
zeros_small zero = All-nil (λ count. count ≤ most_vertices)
zeros_small (suc m) = All-cons (λ count. count ≤ most_vertices) 0 (replicate m 0) (omega arith) (zeros_small m)

-- the row that a longer one begins as: 1, and zeros after it
pub CountsSums-start : (n m : ℕ) (row : List ℕ) → 0 < m → row ≡ replicate m 0 → CountsSums n (set row 0 1) [] × All (λ count. count ≤ most_vertices) (set row 0 1)
CountsSums-start n zero row h e = absurd (omega arith)
CountsSums-start n (suc m) row h e =
    rw e (CountsSums-filled n m (1 ∷ []) [] (CountsSums-nil n), All-cons (λ count. count ≤ most_vertices) 1 (replicate m 0) (omega arith) (zeros_small m))

-- a Vec written through a slice of all of it
pub take_written : {X : Type 0} (n : ℕ) (xs ys : List X) → n ≡ length xs → take n (xs ++ ys) ≡ xs
take_written n xs ys e = take-append-le n xs ys (omega arith) ∙ take_all n xs (omega arith)

-- the counts of one more bound
pub CountsSums-more : (n : ℕ) (row bounds : List ℕ) (i : ℕ) → i < length bounds → CountsSums n row (take i bounds ++ get_or bounds i 0 ∷ []) → CountsSums n row (take (i + 1) bounds)
CountsSums-more n row bounds i h counts = rw (take_more bounds i 0 h) counts

-- products up to t: of the first term, and of the others
pub products_step : (f w : ℕ → ℕ) (t n : ℕ) → n ≤ t → products_from f w n (t + 1 - n) ≡ f n * w (t - n) + products_from f w (n + 1) (t + 1 - (n + 1))
products_step f w t n h = search (rules, products_from, add-one)

-- none are left after the row or after t
pub products_end : (row : List ℕ) (w : ℕ → ℕ) (t n : ℕ) → n ≡ min (length row) (t + 1) → products_from (λ i. get_or row i 0) w n (t + 1 - n) ≡ 0
products_end row w t n e = search (rules, cases_lt, products_from, products_none, get_or_past)

-- all of them are the count with two bounds more
pub products_all : (t a b : ℕ) (row bounds : List ℕ) → CountsSums t row bounds → products_from (λ i. get_or row i 0) (λ k. count_of_sum k (a ∷ b ∷ [])) 0 (t + 1) ≡ count_of_sum t (a ∷ b ∷ bounds)
products_all t a b row bounds counts = grind (arith, products_same, products_from, add-one, count_of_sum-pairs)

-- one bound more: the row is filled up to as many sums as there are, and the counts of the bound summed over it
pub CountsSums-step : (n i m z : ℕ) (bounds old filled next : List ℕ) → i < length bounds → CountsSums n old (take i bounds) → length old ≡ min n (sum (take i bounds)) + 1
    → m ≡ min n (sum (take (i + 1) bounds)) + 1 → filled ≡ take m old ++ replicate z 0 → length filled ≡ m
    → ((k : ℕ) (some : List ℕ) → CountsSums k filled some → length filled ≤ k + 1 → min k (sum (some ++ get_or bounds i 0 ∷ [])) < length filled → CountsSums k next (some ++ get_or bounds i 0 ∷ []))
    → CountsSums n next (take (i + 1) bounds)
CountsSums-step n i m z bounds old filled next h counts long m_is filled_is whole step = grind (arith, take_all, sum-take_le, filled, CountsSums-filled, take_more, CountsSums-more)

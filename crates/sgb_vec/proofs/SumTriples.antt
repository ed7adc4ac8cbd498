-- Triples of numbers that add to another, in closed form; and three bounds more than those that a row counts.
use Rattle.sgb_vec.proofs.Common.{rules, ◌≡◌, ℕ, suc, zero, ◌+◌, ◌-◌, ◌*◌, ◌≤◌, List, [], ◌∷◌, get_or, refl, sym, ap, ◌∙◌, inl, inr, add-one, arith, cases_lt, mul-add, mul-zero}
use Rattle.sgb_vec.specs.inner.SumRows.{CountsSums, count_of_sum}
use Rattle.sgb_vec.proofs.Convolutions.{products_from, products_same, products_same_factors}
use Rattle.sgb_vec.proofs.SumCounts.{count_of_sum-cons, count_of_sum-pairs, count_of_sum-two}
use Rattle.sgb_vec.proofs.Windows.{shifted, window, window_same, window_prefix, window_after, up_to, up_to-window_one, one_at_zero}

-- the sum of the numbers up to n
abbrev pub triangle : ℕ → ℕ
triangle zero = 0
triangle (suc n) = triangle n + suc n

-- in closed form
pub twice-triangle : (n : ℕ) → 2 * triangle n ≡ n * (n + 1)
twice-triangle zero = refl
twice-triangle (suc n) = omega (arith, twice-triangle n, mul-add (suc n) n 2, mul-add (suc n) (suc n) 1, mul-add n (n + 1) 1)

-- a number that has its double has its value
pub triangle-is : (t n : ℕ) → 2 * t ≡ n * (n + 1) → t ≡ triangle n
triangle-is t n e = omega (arith, e, twice-triangle n)

-- ones up to b, added twice up to k
up_to-ones_twice : (b k : ℕ) → up_to (up_to (window b one_at_zero)) k + triangle (k - b) ≡ triangle (k + 1)
up_to-ones_twice b zero =
    let none : 0 - b ≡ 0 = omega arith in
    omega (arith, up_to-window_one b 0, ap triangle none, ap triangle (add-one 0))
up_to-ones_twice b (suc k) =
    let whole : triangle (suc k + 1) ≡ triangle (k + 1) + (suc k + 1) = ap triangle (add-one (suc k)) ∙ ap (λ t. t + suc (suc k)) (ap triangle (sym (add-one k))) ∙ omega arith in
    elim (cases_lt k b) [
      | inl near ↦
          let none : suc k - b ≡ 0 = omega arith in
          let none_before : k - b ≡ 0 = omega arith in
          omega (arith, whole, up_to-ones_twice b k, up_to-window_one b (suc k), ap triangle none, ap triangle none_before)
      | inr far ↦
          let more : suc k - b ≡ suc (k - b) = omega arith in
          omega (arith, whole, up_to-ones_twice b k, up_to-window_one b (suc k), ap triangle more)
    ]

-- a window summed up to k
up_to-window : (a : ℕ) (f : ℕ → ℕ) (k : ℕ) → up_to (window a f) k ≡ window a (up_to f) k
up_to-window zero f zero = refl
up_to-window zero f (suc k) = omega (arith, up_to-window zero f k)
up_to-window (suc a) f zero = omega arith
up_to-window (suc a) f (suc zero) = omega (arith, up_to-window a f zero)
up_to-window (suc a) f (suc (suc k)) = omega (arith, up_to-window (suc a) f (suc k), up_to-window a f (suc k), up_to-window a f k)

-- the pairs up to a and b that add to at most k
pairs_up_to : (a b k : ℕ) → up_to (window a (window b one_at_zero)) k + triangle (k - a) + triangle (k - b) ≡ triangle (k + 1) + triangle (k - a - 1 - b)
pairs_up_to a b k = search (rules, window, one_at_zero, cases_lt, up_to-window, window_prefix, up_to, up_to-ones_twice, window_after)

-- such pairs by the sums of the numbers up to four others
pub pairs-closed : (a b k : ℕ) → count_of_sum k (k ∷ a ∷ b ∷ []) + triangle (k - a) + triangle (k - b) ≡ triangle (k + 1) + triangle (k - a - 1 - b)
pairs-closed a b k = grind (arith, pairs_up_to, count_of_sum-cons, count_of_sum-two, window_prefix)

-- triples: up to the first bound it bounds nothing
triples-window : (a b c k : ℕ) → count_of_sum k (a ∷ b ∷ c ∷ []) ≡ window a (window b (window c one_at_zero)) k
triples-window a b c k = search (rules, count_of_sum-cons, window_same, window, one_at_zero, count_of_sum-two)

pub triples-near : (a b c k : ℕ) → k ≤ a → count_of_sum k (a ∷ b ∷ c ∷ []) ≡ count_of_sum k (k ∷ b ∷ c ∷ [])
triples-near a b c k near = grind (arith, triples-window, window_prefix)

-- above it, those that leave more than it are taken off
pub triples-far : (a b c i k : ℕ) → k ≡ a + 1 + i → count_of_sum k (a ∷ b ∷ c ∷ []) + count_of_sum i (i ∷ b ∷ c ∷ []) ≡ count_of_sum k (k ∷ b ∷ c ∷ [])
triples-far a b c i k e = grind (arith, triples-window, window_after, window_prefix)

-- products with a sum of two sequences
products-add : (f v w : ℕ → ℕ) (m n : ℕ) → products_from f (λ i. v i + w i) n m ≡ products_from f v n m + products_from f w n m
products-add f v w zero n = omega arith
products-add f v w (suc m) n = omega (arith, products-add f v w m (suc n), mul-add (f n) (v m) (w m))

-- and with a later one
products-shifted : (f v : ℕ → ℕ) (m n : ℕ) → products_from f (shifted v) n (suc m) ≡ products_from f v n m
products-shifted f v zero n = omega (arith, mul-zero (f n))
products-shifted f v (suc m) n = omega (arith, products-shifted f v m (suc n))

-- a window of sums of products is one of the factors
window-products : (a : ℕ) (f w : ℕ → ℕ) (k : ℕ) → window a (λ i. products_from f w 0 (suc i)) k ≡ products_from f (window a w) 0 (suc k)
window-products zero f w k = products_same_factors f w (window zero w) (suc k) 0 (λ i. refl)
window-products (suc a) f w k =
    let h : ℕ → ℕ = λ i. products_from f w 0 (suc i) in
    let whole : products_from f (window (suc a) w) 0 (suc k) ≡ h k + products_from f (window a w) 0 k =
    products_same_factors f (window (suc a) w) (λ i. w i + shifted (window a w) i) (suc k) 0 (λ i. refl)
    ∙ products-add f w (shifted (window a w)) (suc k) 0
    ∙ ap (λ m. h k + m) (products-shifted f (window a w) k 0) in
    ap (λ m. h k + m) (later k (λ j. window-products a f w j)) ∙ sym whole
  where
    later : (m : ℕ) → ((j : ℕ) → window a (λ i. products_from f w 0 (suc i)) j ≡ products_from f (window a w) 0 (suc j)) → shifted (window a (λ i. products_from f w 0 (suc i))) m ≡ products_from f (window a w) 0 m
    later zero e = refl
    later (suc j) e = e j

-- three bounds more: products of the counts with those of triples
count_of_sum-triples : (a b c : ℕ) (bounds : List ℕ) (k : ℕ) → count_of_sum k (a ∷ b ∷ c ∷ bounds) ≡ products_from (λ i. count_of_sum i bounds) (λ i. count_of_sum i (a ∷ b ∷ c ∷ [])) 0 (suc k)
count_of_sum-triples a b c bounds k =
    let f : ℕ → ℕ = λ i. count_of_sum i bounds in
    let pairs : ℕ → ℕ = λ i. count_of_sum i (b ∷ c ∷ []) in
    count_of_sum-cons a (b ∷ c ∷ bounds) k
    ∙ window_same a (λ i. count_of_sum i (b ∷ c ∷ bounds)) (λ i. products_from f pairs 0 (suc i)) k (λ i _. count_of_sum-pairs b c bounds i)
    ∙ window-products a f pairs k
    ∙ products_same_factors f (window a pairs) (λ i. count_of_sum i (a ∷ b ∷ c ∷ [])) (suc k) 0 (λ i. sym (count_of_sum-cons a (b ∷ c ∷ []) i))

-- all products of a row with triples are the count with three bounds more
pub triple_products_all : (t a b c : ℕ) (row bounds : List ℕ) → CountsSums t row bounds → products_from (λ i. get_or row i 0) (λ k. count_of_sum k (a ∷ b ∷ c ∷ [])) 0 (t + 1) ≡ count_of_sum t (a ∷ b ∷ c ∷ bounds)
triple_products_all t a b c row bounds counts = grind (arith, products_same, products_from, add-one, count_of_sum-triples)

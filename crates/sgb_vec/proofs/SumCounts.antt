-- How many vectors within bounds add to a number: one more bound sums the counts over a window.
use Rattle.sgb_vec.proofs.Common.{◌≡◌, ℕ, suc, zero, ◌+◌, ◌<◌, ◌≤◌, Bool, false, eqb, List, [], ◌∷◌, ◌++◌, length, map, filter, take, sum, get_or, refl, sym, ap, ◌∙◌, add-one, arith, length-append, rules, flat_map, range_with_len, remove, ne_eqb, length-map, filter-append, sum_by-cons}
use Rattle.sgb_vec.specs.Boxes.{box}
use Rattle.sgb_vec.specs.Sums.{bounded_sums}
use Rattle.sgb_vec.specs.inner.SumRows.{count_of_sum}
use Rattle.sgb_vec.proofs.Lists.{filter-none}
use Rattle.sgb_vec.proofs.Convolutions.{products_from, products_same_factors, windows-products}
use Rattle.sgb_vec.proofs.Hills.{IsHill, IsHill-window}
use Rattle.sgb_vec.proofs.Windows.{shifted, window, window_same, window_comm, window_far, window-last_le, window_le, one_at_zero, window-one_at_zero_prefix}

-- the sequence x places later, with 0 in front
abbrev later : ℕ → (ℕ → ℕ) → ℕ → ℕ
later zero f k = f k
later (suc x) f k = shifted (later x f) k

-- the sum of the sequences a places later, a + 1 places later, and so on, n of them
abbrev laters : ℕ → ℕ → (ℕ → ℕ) → ℕ → ℕ
laters a zero f k = 0
laters a (suc n) f k = later a f k + laters (a + 1) n f k

-- sequences one place later have the sum one place later
laters-shifted : (n a : ℕ) (f : ℕ → ℕ) (k : ℕ) → laters (a + 1) n f k ≡ shifted (laters a n f) k
laters-shifted zero a f zero = refl
laters-shifted zero a f (suc k) = refl
laters-shifted (suc n) a f zero = grind (arith, laters-shifted n (a + 1) f 0)
laters-shifted (suc n) a f (suc k) = grind (arith, laters-shifted n (a + 1) f (suc k))

-- all from 0 to b places later are a window
laters-window : (b : ℕ) (f : ℕ → ℕ) (k : ℕ) → laters 0 (suc b) f k ≡ window b f k
laters-window zero f k = omega arith
laters-window (suc b) f zero = omega (arith, laters-shifted (suc b) 0 f 0)
laters-window (suc b) f (suc k) = omega (arith, laters-shifted (suc b) 0 f (suc k), laters-window b f k)

-- how many of the vectors add to k
abbrev pub tally : List (List ℕ) → ℕ → ℕ
tally vectors k = length (filter (λ v. eqb (sum v) k) vectors)

-- what is mapped and passes is what passes before, mapped
pub filter-map : (p q : List ℕ → Bool) (h : List ℕ → List ℕ) → ((v : List ℕ) → p (h v) ≡ q v) → (vectors : List (List ℕ)) → filter p (map h vectors) ≡ map h (filter q vectors)
filter-map p q h e [] = refl
filter-map p q h e (v ∷ vectors) = grind (arith, filter-map p q h e vectors)

-- so there are as many
length-filter-map : (p q : List ℕ → Bool) (h : List ℕ → List ℕ) → ((v : List ℕ) → p (h v) ≡ q v) → (vectors : List (List ℕ)) → length (filter p (map h vectors)) ≡ length (filter q vectors)
length-filter-map p q h e vectors = ap length (filter-map p q h e vectors) ∙ length-map (filter q vectors) h

-- a sum with a greater first entry
sum-suc : (x : ℕ) (v : List ℕ) → sum (suc x ∷ v) ≡ suc (sum (x ∷ v))
sum-suc x v = omega (arith, sum_by-cons (λ y. y) (suc x) v, sum_by-cons (λ y. y) x v)

-- x in front of each vector puts the counts x places later
tally-front : (vectors : List (List ℕ)) (x k : ℕ) → tally (map (λ v. x ∷ v) vectors) k ≡ later x (tally vectors) k
tally-front vectors zero k = length-filter-map (λ v. eqb (sum v) k) (λ v. eqb (sum v) k) (λ v. zero ∷ v) (λ v. refl) vectors
tally-front vectors (suc x) zero =
    let above : (v : List ℕ) → eqb (sum (suc x ∷ v)) 0 ≡ false = λ v. ne_eqb (sum (suc x ∷ v)) 0 (λ e. absurd (omega (arith, sum-suc x v))) in
    length-filter-map (λ v. eqb (sum v) 0) (λ v. false) (λ v. suc x ∷ v) above vectors ∙ ap length (filter-none (λ v. false) vectors (λ k d within. refl))
tally-front vectors (suc x) (suc k) =
    let same : (v : List ℕ) → eqb (sum (suc x ∷ v)) (suc k) ≡ eqb (sum (x ∷ v)) k = grind (arith, sum-suc) in
    let adds : List ℕ → Bool = λ v. eqb (sum (x ∷ v)) k in
    length-filter-map (λ v. eqb (sum v) (suc k)) adds (λ v. suc x ∷ v) same vectors
    ∙ sym (length-filter-map (λ v. eqb (sum v) k) adds (λ v. x ∷ v) (λ v. refl) vectors)
    ∙ tally-front vectors x k

-- of each x from a on, n of them
tally-rows : (vectors : List (List ℕ)) (n a k : ℕ) → tally (flat_map (λ x. map (λ v. x ∷ v) vectors) (range_with_len a n)) k ≡ laters a n (tally vectors) k
tally-rows vectors zero a k = refl
tally-rows vectors (suc n) a k = simp (eqb, tally, filter, filter-append, length-append, tally-front, tally-rows vectors n (a + 1) k)

-- a bound in front sums the counts over a window
pub count_of_sum-cons : (b : ℕ) (bounds : List ℕ) (k : ℕ) → count_of_sum k (b ∷ bounds) ≡ window b (λ i. count_of_sum i bounds) k
unfolding bounded_sums box
count_of_sum-cons b bounds k =
    let vectors = box (map (λ c. c + 1) bounds) in
    let all_rows : count_of_sum k (b ∷ bounds) ≡ laters 0 (b + 1) (tally vectors) k = tally-rows vectors (b + 1) 0 k in
    all_rows ∙ ap (λ n. laters 0 n (tally vectors) k) (add-one b) ∙ laters-window b (tally vectors) k

-- so does a bound after
pub count_of_sum-snoc : (bounds : List ℕ) (b k : ℕ) → count_of_sum k (bounds ++ b ∷ []) ≡ window b (λ i. count_of_sum i bounds) k
count_of_sum-snoc [] b k = count_of_sum-cons b [] k
count_of_sum-snoc (a ∷ bounds) b k =
    count_of_sum-cons a (bounds ++ b ∷ []) k
    ∙ window_same a (λ i. count_of_sum i (bounds ++ b ∷ [])) (window b (λ i. count_of_sum i bounds)) k (λ i _. count_of_sum-snoc bounds b i)
    ∙ window_comm a b (λ i. count_of_sum i bounds) k
    ∙ window_same b (window a (λ i. count_of_sum i bounds)) (λ i. count_of_sum i (a ∷ bounds)) k (λ i _. sym (count_of_sum-cons a bounds i))

-- no bound: one vector adds to 0, and none to another sum
pub count_of_sum-nil : (k : ℕ) → count_of_sum k [] ≡ one_at_zero k
unfolding bounded_sums box
count_of_sum-nil zero = refl
count_of_sum-nil (suc k) = grind arith

-- as far as it goes there is one; of no bound there is one that adds to 0
pub count_of_sum-few : (bounds : List ℕ) (k : ℕ) → length bounds < 2 → k ≤ sum bounds → count_of_sum k bounds ≡ 1
count_of_sum-few [] zero short h = count_of_sum-nil 0
count_of_sum-few (b ∷ []) k short h =
    let within : k ≤ b = omega (arith, sum_by-cons (λ y. y) b []) in
    simp (count_of_sum-cons, window_same, one_at_zero, count_of_sum-nil, window-one_at_zero_prefix, within)
count_of_sum-few _ _ short h = absurd (omega arith)

-- no vector above the sum of the bounds
pub count_of_sum-far : (bounds : List ℕ) (k : ℕ) → sum bounds < k → count_of_sum k bounds ≡ 0
count_of_sum-far [] zero h = absurd (omega arith)
count_of_sum-far [] (suc k) h = count_of_sum-nil (suc k)
count_of_sum-far (b ∷ bounds) k h =
    let far : b + sum bounds < k = omega (arith, sum_by-cons (λ y. y) b bounds) in
    count_of_sum-cons b bounds k ∙ window_far b (sum bounds) (λ i. count_of_sum i bounds) (λ i l. count_of_sum-far bounds i l) k far

-- where a bound is taken out, it sums the counts of the others over a window
pub count_of_sum-remove : (bounds : List ℕ) (i k : ℕ) → i < length bounds → count_of_sum k bounds ≡ count_of_sum k (get_or bounds i 0 ∷ remove bounds i)
count_of_sum-remove [] i k h = absurd (omega arith)
count_of_sum-remove (b ∷ bounds) zero k h = refl
count_of_sum-remove (b ∷ bounds) (suc i) k h =
    let a = get_or bounds i 0 in
    let others = remove bounds i in
    count_of_sum-cons b bounds k
    ∙ window_same b (λ j. count_of_sum j bounds) (window a (λ j. count_of_sum j others)) k (λ j _. count_of_sum-remove bounds i j (omega arith) ∙ count_of_sum-cons a others j)
    ∙ window_comm b a (λ j. count_of_sum j others) k
    ∙ window_same a (window b (λ j. count_of_sum j others)) (λ j. count_of_sum j (b ∷ others)) k (λ j _. sym (count_of_sum-cons b others j))
    ∙ sym (count_of_sum-cons a (b ∷ others) k)

-- so do two that are taken out one after another
pub count_of_sum-taken : (a b : ℕ) (bounds first others : List ℕ) → ((k : ℕ) → count_of_sum k bounds ≡ count_of_sum k (a ∷ first)) → ((k : ℕ) → count_of_sum k first ≡ count_of_sum k (b ∷ others)) → (k : ℕ) → count_of_sum k bounds ≡ count_of_sum k (a ∷ b ∷ others)
count_of_sum-taken a b bounds first others e f k = grind (arith, count_of_sum-cons, window_same)

-- the first bounds have no greater count than all
pub count_of_sum-take_le : (bounds : List ℕ) (j k : ℕ) → count_of_sum k (take j bounds) ≤ count_of_sum k bounds
count_of_sum-take_le [] zero k = omega arith
count_of_sum-take_le [] (suc j) k = omega arith
count_of_sum-take_le (b ∷ bounds) zero k = grind (arith, count_of_sum-cons, window-last_le, count_of_sum-take_le bounds zero k)
count_of_sum-take_le (b ∷ bounds) (suc j) k =
    omega (arith, count_of_sum-cons b (take j bounds) k, count_of_sum-cons b bounds k, window_le b (λ i. count_of_sum i (take j bounds)) (λ i. count_of_sum i bounds) k (λ i _. count_of_sum-take_le bounds j i))

-- two bounds: pairs
pub count_of_sum-two : (a b k : ℕ) → count_of_sum k (a ∷ b ∷ []) ≡ window a (window b one_at_zero) k
count_of_sum-two a b k = grind (arith, count_of_sum-cons, window_same, window, one_at_zero, count_of_sum-nil)

-- two bounds more: products of the counts with those of pairs
pub count_of_sum-pairs : (a b : ℕ) (bounds : List ℕ) (k : ℕ) → count_of_sum k (a ∷ b ∷ bounds) ≡ products_from (λ i. count_of_sum i bounds) (λ i. count_of_sum i (a ∷ b ∷ [])) 0 (suc k)
count_of_sum-pairs a b bounds k =
    let f : ℕ → ℕ = λ i. count_of_sum i bounds in
    count_of_sum-cons a (b ∷ bounds) k
    ∙ window_same a (λ i. count_of_sum i (b ∷ bounds)) (window b f) k (λ i _. count_of_sum-cons b bounds i)
    ∙ windows-products a b f k
    ∙ products_same_factors f (window a (window b one_at_zero)) (λ i. count_of_sum i (a ∷ b ∷ [])) (suc k) 0 (λ i. sym (count_of_sum-two a b i))

-- the counts rise to half the sum of the bounds, and fall after it as they rose
pub counts_rise : (bounds : List ℕ) → IsHill (λ k. count_of_sum k bounds) (sum bounds)
counts_rise [] = record { far = count_of_sum-far []; mirror = λ i j e. let same : i ≡ j = omega arith in ap (λ k. count_of_sum k []) same; rises = λ i l. absurd (omega arith) }
counts_rise (b ∷ bounds) = search (rules, sum_by-cons, count_of_sum-cons, IsHill-window, counts_rise bounds)

-- three that are taken out one after another, the last bound having been put behind the others
pub count_of_sum-three_taken : (x a b c : ℕ) (bounds all first second others : List ℕ) → all ≡ bounds ++ x ∷ [] → ((k : ℕ) → count_of_sum k all ≡ count_of_sum k (a ∷ first)) → ((k : ℕ) → count_of_sum k first ≡ count_of_sum k (b ∷ second)) → ((k : ℕ) → count_of_sum k second ≡ count_of_sum k (c ∷ others)) → (k : ℕ) → count_of_sum k (x ∷ bounds) ≡ count_of_sum k (a ∷ b ∷ c ∷ others)
count_of_sum-three_taken x a b c bounds all first second others whole e f g k = grind (arith, count_of_sum-taken, count_of_sum-cons, count_of_sum-snoc, window_same)

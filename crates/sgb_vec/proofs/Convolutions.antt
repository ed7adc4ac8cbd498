-- Sums of products: two windows of a sequence are its terms, each times the windows of a single 1 so many places later.
use Rattle.std.proofs.Common.{◌≡◌, ℕ, suc, zero, ◌+◌, ◌*◌, ◌<◌, ◌≤◌, refl, ap, ◌∙◌, arith}
use Rattle.sgb_vec.proofs.Windows.{shifted, window, window_same, window-add, window-shifted, window-multiple, one_at_zero}

-- the m products f n * w (m - 1), f (n + 1) * w (m - 2), .., f (n + m - 1) * w 0 added
abbrev pub products_from : (ℕ → ℕ) → (ℕ → ℕ) → ℕ → ℕ → ℕ
products_from f w n zero = 0
products_from f w n (suc m) = f n * w m + products_from f w (suc n) m

-- equal terms have equal products
pub products_same : (f g w : ℕ → ℕ) (m n : ℕ) → ((i : ℕ) → n ≤ i → i < n + m → f i ≡ g i) → products_from f w n m ≡ products_from g w n m
products_same f g w zero n e = refl
products_same f g w (suc m) n e = grind (arith, products_same f g w m (suc n) (λ i low high. e i (omega arith) (omega arith)))

-- equal factors too
pub products_same_factors : (f v w : ℕ → ℕ) (m n : ℕ) → ((i : ℕ) → v i ≡ w i) → products_from f v n m ≡ products_from f w n m
products_same_factors f v w zero n e = refl
products_same_factors f v w (suc m) n e =
    omega (arith, ap (λ x. f n * x) (e m), products_same_factors f v w m (suc n) e)

-- no terms from n on have no products
pub products_none : (f w : ℕ → ℕ) (m n : ℕ) → ((i : ℕ) → n ≤ i → f i ≡ 0) → products_from f w n m ≡ 0
products_none f w zero n z = refl
products_none f w (suc m) n z = grind (arith, products_none f w m (suc n) (λ i h. z i (omega arith)))

module _ (a b : ℕ) where
  -- two windows
  abbrev windows : (ℕ → ℕ) → ℕ → ℕ
  windows f k = window a (window b f) k

  -- of equal sequences
  windows_same : (f g : ℕ → ℕ) (k : ℕ) → ((i : ℕ) → f i ≡ g i) → windows f k ≡ windows g k
  windows_same f g k e = window_same a (window b f) (window b g) k (λ i _. window_same b f g i (λ j _. e j))

  -- of a sum, a multiple and a later sequence
  windows-add : (f g : ℕ → ℕ) (k : ℕ) → windows (λ i. f i + g i) k ≡ windows f k + windows g k
  windows-add f g k =
      window_same a (window b (λ i. f i + g i)) (λ i. window b f i + window b g i) k (λ i _. window-add b f g i)
      ∙ window-add a (window b f) (window b g) k

  windows-multiple : (q : ℕ) (f : ℕ → ℕ) (k : ℕ) → windows (λ i. q * f i) k ≡ q * windows f k
  windows-multiple q f k =
      window_same a (window b (λ i. q * f i)) (λ i. q * window b f i) k (λ i _. window-multiple b q f i)
      ∙ window-multiple a q (window b f) k

  windows-shifted : (f : ℕ → ℕ) (k : ℕ) → windows (shifted f) k ≡ shifted (windows f) k
  windows-shifted f k =
      window_same a (window b (shifted f)) (shifted (window b f)) k (λ i _. window-shifted b f i)
      ∙ window-shifted a (window b f) k

  -- the first term and the later ones
  windows-first : (f : ℕ → ℕ) (n k : ℕ) → windows (λ i. f (n + i)) k ≡ f n * windows one_at_zero k + shifted (windows (λ i. f (suc n + i))) k
  windows-first f n k =
      windows_same (λ i. f (n + i)) (λ i. f n * one_at_zero i + shifted (λ j. f (suc n + j)) i) k parts
      ∙ windows-add (λ i. f n * one_at_zero i) (shifted (λ j. f (suc n + j))) k
      ∙ both
    where
      parts : (i : ℕ) → f (n + i) ≡ f n * one_at_zero i + shifted (λ j. f (suc n + j)) i
      parts zero = let here : n + 0 ≡ n = omega arith in omega (arith, ap f here)
      parts (suc i) = let here : n + suc i ≡ suc n + i = omega arith in omega (arith, ap f here)

      both : windows (λ i. f n * one_at_zero i) k + windows (shifted (λ j. f (suc n + j))) k ≡ f n * windows one_at_zero k + shifted (windows (λ i. f (suc n + i))) k
      both = omega (arith, windows-multiple (f n) one_at_zero k, windows-shifted (λ j. f (suc n + j)) k)

  -- the terms from n on
  windows-from : (f : ℕ → ℕ) (k n : ℕ) → windows (λ i. f (n + i)) k ≡ products_from f (windows one_at_zero) n (suc k)
  windows-from f zero n = omega (arith, windows-first f n 0)
  windows-from f (suc k) n = omega (arith, windows-first f n (suc k), windows-from f k (suc n))

  -- all terms
  pub windows-products : (f : ℕ → ℕ) (k : ℕ) → window a (window b f) k ≡ products_from f (window a (window b one_at_zero)) 0 (suc k)
  windows-products f k = windows_same f (λ i. f (0 + i)) k (λ i. let here : i ≡ 0 + i = omega arith in ap f here) ∙ windows-from f k 0

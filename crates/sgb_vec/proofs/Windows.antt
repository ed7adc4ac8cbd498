-- Sums of a sequence over a window: the terms at a place and at as many places before it as the window is wide.
use Rattle.sgb_vec.proofs.Common.{◌≡◌, ℕ, suc, zero, ◌+◌, ◌-◌, ◌*◌, ◌<◌, ◌≤◌, min, refl, ap, inl, inr, arith, cases_lt, mul-add, mul-zero}

-- the sequence one place later, with 0 in front
abbrev pub shifted : (ℕ → ℕ) → ℕ → ℕ
shifted f zero = 0
shifted f (suc k) = f k

-- the sum of f at k and at the b places before it, as far as there are so many
abbrev pub window : ℕ → (ℕ → ℕ) → ℕ → ℕ
window zero f k = f k
window (suc b) f k = f k + shifted (window b f) k

-- the sum of f from 0 to k
abbrev pub up_to : (ℕ → ℕ) → ℕ → ℕ
up_to f zero = f zero
up_to f (suc k) = up_to f k + f (suc k)

-- equal terms at and before k have equal sums
pub window_same : (b : ℕ) (f g : ℕ → ℕ) (k : ℕ) → ((i : ℕ) → i ≤ k → f i ≡ g i) → window b f k ≡ window b g k
window_same zero f g k e = e k (omega arith)
window_same (suc b) f g zero e = omega (arith, e 0 (omega arith))
window_same (suc b) f g (suc k) e = omega (arith, e (suc k) (omega arith), window_same b f g k (λ i h. e i (omega arith)))

-- the sum of two sequences
pub window-add : (b : ℕ) (f g : ℕ → ℕ) (k : ℕ) → window b (λ i. f i + g i) k ≡ window b f k + window b g k
window-add zero f g k = refl
window-add (suc b) f g zero = omega arith
window-add (suc b) f g (suc k) = omega (arith, window-add b f g k)

-- a later sequence has later sums
pub window-shifted : (b : ℕ) (f : ℕ → ℕ) (k : ℕ) → window b (shifted f) k ≡ shifted (window b f) k
window-shifted (suc b) f (suc k) = ap (λ n. f k + n) (window-shifted b f k)
window-shifted _ f _ = refl

-- two windows may be taken in either order
pub window_comm : (a b : ℕ) (f : ℕ → ℕ) (k : ℕ) → window a (window b f) k ≡ window b (window a f) k
window_comm zero b f k = refl
window_comm (suc a) b f zero = simp (window, shifted, window-add, window-shifted)
window_comm (suc a) b f (suc k) = simp (window, shifted, window-add, window-shifted, window_comm a b f k)

-- a multiple of a sequence
pub window-multiple : (b q : ℕ) (f : ℕ → ℕ) (k : ℕ) → window b (λ i. q * f i) k ≡ q * window b f k
window-multiple zero q f k = refl
window-multiple (suc b) q f zero = omega (arith, mul-add q (f 0) 0, mul-zero q)
window-multiple (suc b) q f (suc k) = omega (arith, window-multiple b q f k, mul-add q (f (suc k)) (window b f k))

-- a window has at least its last term
pub window-last_le : (b : ℕ) (f : ℕ → ℕ) (k : ℕ) → f k ≤ window b f k
window-last_le zero f k = omega arith
window-last_le (suc b) f k = omega arith

-- greater terms at and before k have greater sums
pub window_le : (b : ℕ) (f g : ℕ → ℕ) (k : ℕ) → ((i : ℕ) → i ≤ k → f i ≤ g i) → window b f k ≤ window b g k
window_le zero f g k h = h k (omega arith)
window_le (suc b) f g zero h = omega (arith, h 0 (omega arith))
window_le (suc b) f g (suc k) h = omega (arith, h (suc k) (omega arith), window_le b f g k (λ i l. h i (omega arith)))

-- up to its width the window has all terms
pub window_prefix : (b : ℕ) (f : ℕ → ℕ) (k : ℕ) → k ≤ b → window b f k ≡ up_to f k
window_prefix zero f zero h = refl
window_prefix zero f (suc k) h = absurd (omega arith)
window_prefix (suc b) f zero h = omega arith
window_prefix (suc b) f (suc k) h = omega (arith, window_prefix b f k (omega arith))

-- after it, all but those before the window
pub window_after : (b i : ℕ) (f : ℕ → ℕ) (k : ℕ) → k ≡ b + 1 + i → window b f k + up_to f i ≡ up_to f k
window_after zero i f (suc k) e = let same : i ≡ k = omega arith in omega (arith, ap (up_to f) same)
window_after (suc b) i f (suc k) e = omega (arith, window_after b i f k (omega arith))
window_after _ i f _ e = absurd (omega arith)

-- a wider window has one term more, where there are so many
pub window-wider : (b i : ℕ) (f : ℕ → ℕ) (k : ℕ) → k ≡ b + 1 + i → window (suc b) f k ≡ window b f k + f i
window-wider zero i f (suc k) e = let same : k ≡ i = omega arith in omega (arith, ap f same)
window-wider (suc b) i f (suc k) e = omega (arith, window-wider b i f k (omega arith))
window-wider _ i f _ e = absurd (omega arith)

-- and the same where there are not
pub window-wide : (b : ℕ) (f : ℕ → ℕ) (k : ℕ) → k ≤ b → window (suc b) f k ≡ window b f k
window-wide b f k h = omega (arith, window_prefix b f k h, window_prefix (suc b) f k (omega arith))

-- far after the last term that is not 0
pub window_far : (b m : ℕ) (f : ℕ → ℕ) → ((i : ℕ) → m < i → f i ≡ 0) → (k : ℕ) → b + m < k → window b f k ≡ 0
window_far zero m f z k h = z k (omega arith)
window_far (suc b) m f z zero h = absurd (omega arith)
window_far (suc b) m f z (suc k) h = omega (arith, z (suc k) (omega arith), window_far b m f z k (omega arith))

-- 1 at 0, and 0 elsewhere
abbrev pub one_at_zero : ℕ → ℕ
one_at_zero zero = 1
one_at_zero (suc k) = 0

-- its windows have it up to their width
pub window-one_at_zero_prefix : (b k : ℕ) → k ≤ b → window b one_at_zero k ≡ 1
window-one_at_zero_prefix zero zero h = refl
window-one_at_zero_prefix zero (suc k) h = absurd (omega arith)
window-one_at_zero_prefix (suc b) zero h = refl
window-one_at_zero_prefix (suc b) (suc k) h = omega (arith, window-one_at_zero_prefix b k (omega arith))

-- after it they have none
pub window-one_at_zero_far : (b k : ℕ) → b < k → window b one_at_zero k ≡ 0
window-one_at_zero_far b k h = window_far b 0 one_at_zero after k (omega arith)
  where
    after : (i : ℕ) → 0 < i → one_at_zero i ≡ 0
    after zero l = absurd (omega arith)
    after (suc i) l = refl

-- the sum of such a window from 0 to k
pub up_to-window_one : (b k : ℕ) → up_to (window b one_at_zero) k ≡ min k b + 1
up_to-window_one b zero = omega (arith, window-one_at_zero_prefix b 0 (omega arith))
up_to-window_one b (suc k) = grind (arith, window-one_at_zero_far, window-one_at_zero_prefix, up_to-window_one b k)

-- how many pairs of a number up to a and one up to b add to k: the second is from k - a up to the lesser of k and b
pub window-window_one : (a b k : ℕ) → window a (window b one_at_zero) k ≡ (min k b + 1) - (k - a)
window-window_one a b k =
    elim (cases_lt a k) [
      | inl far ↦
          let i : ℕ = k - (a + 1) in
          omega (arith, window_after a i (window b one_at_zero) k (omega arith), up_to-window_one b k, up_to-window_one b i)
      | inr near ↦ omega (arith, window_prefix a (window b one_at_zero) k near, up_to-window_one b k)
    ]

-- greater terms have a greater sum
pub up_to_le : (f g : ℕ → ℕ) (k : ℕ) → ((i : ℕ) → i ≤ k → f i ≤ g i) → up_to f k ≤ up_to g k
up_to_le f g zero h = h 0 (omega arith)
up_to_le f g (suc k) h = omega (arith, h (suc k) (omega arith), up_to_le f g k (λ i l. h i (omega arith)))

-- terms of at least 1 have at least as great a sum as there are terms
pub up_to_ones : (f : ℕ → ℕ) (k : ℕ) → ((i : ℕ) → i ≤ k → 1 ≤ f i) → k + 1 ≤ up_to f k
up_to_ones f zero h = h 0 (omega arith)
up_to_ones f (suc k) h = omega (arith, h (suc k) (omega arith), up_to_ones f k (λ i l. h i (omega arith)))

-- how many triples of numbers of which each may be as great as k add to k
pub up_to-suc : (k : ℕ) → 2 * up_to (λ i. i + 1) k ≡ (k + 1) * (k + 2)
up_to-suc zero = refl
up_to-suc (suc k) = omega (arith, up_to-suc k, mul-add (k + 2) (k + 1) 2, mul-add (k + 2) k 3)

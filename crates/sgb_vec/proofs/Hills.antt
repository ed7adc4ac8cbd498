-- Sequences that rise to the middle of 0 to s, fall after it as they rose, and are 0 after s; so are their windows.
use Rattle.sgb_vec.proofs.Common.{◌≡◌, ℕ, suc, zero, ◌+◌, ◌-◌, ◌<◌, ◌≤◌, inl, inr, ap, ◌⊎◌, arith, cases_lt}
use Rattle.sgb_vec.proofs.Windows.{window, window_far, window-wider, window-wide}

pub record IsHill (f : ℕ → ℕ) (s : ℕ) : Type 0 where
  pub far : (i : ℕ) → s < i → f i ≡ 0
  pub mirror : (i j : ℕ) → i + j ≡ s → f i ≡ f j
  pub rises : (i : ℕ) → i + i < s → f i ≤ f (suc i)

module _ (f : ℕ → ℕ) (s : ℕ) (h : IsHill f s) where
  -- up to the middle
  rise : (m i : ℕ) → i + m + (i + m) ≤ s + 1 → f i ≤ f (i + m)
  rise zero i l = let here : i + 0 ≡ i = omega arith in omega (arith, ap f here)
  rise (suc m) i l = grind (arith, rise m i (omega arith))

  rise_to : (i j : ℕ) → i ≤ j → j + j ≤ s + 1 → f i ≤ f j
  rise_to i j l m = let here : i + (j - i) ≡ j = omega arith in omega (arith, rise (j - i) i (omega arith), ap f here)

  -- what is nearer to the middle is no less
  pub hill_le : (i j : ℕ) → i ≤ j → i + j ≤ s → f i ≤ f j
  hill_le i j l m =
      elim (cases_lt (s + 1) (j + j)) [
        | inl after ↦ omega (arith, h.mirror j (s - j) (omega arith), rise_to i (s - j) (omega arith) (omega arith))
        | inr before ↦ rise_to i j l before
      ]

  -- m is no further from the middle than n, and no term up to n is greater than the term at m
  pub hill_top : (n m k : ℕ) → m ≤ n → m + m ≤ s → m ≡ n ⊎ (s ≤ m + m + 1) → k ≤ n → f k ≤ f m
  hill_top n m k below low top l =
      elim (cases_lt m k) [
        | inr before ↦ hill_le k m before (omega arith)
        | inl after ↦ elim top [
          | inl same ↦ absurd (omega arith)
          | inr half ↦ elim (cases_lt s k) [
            | inl far ↦ omega (arith, h.far k far)
            | inr near ↦ omega (arith, h.mirror k (s - k) (omega arith), hill_le (s - k) m (omega arith) (omega arith))
          ]
        ]
      ]

  -- a window mirrors
  window-mirror : (b i j : ℕ) → i + j ≡ s + b → window b f i ≡ window b f j
  window-mirror zero i j e = h.mirror i j (omega arith)
  window-mirror (suc b) zero j e =
      omega (arith, window-wider b s f j (omega arith), window_far b s f h.far j (omega arith), h.mirror 0 s (omega arith))
  window-mirror (suc b) (suc i) j e =
      elim (cases_lt b j) [
        | inl far ↦
            let t : ℕ = j - (b + 1) in
            omega (arith, window-wider b t f j (omega arith), window-mirror b i j (omega arith), h.mirror (suc i) t (omega arith))
        | inr near ↦ omega (arith, window-wide b f j near, window-mirror b i j (omega arith), h.far (suc i) (omega arith))
      ]

  -- and rises
  window-rises : (b i : ℕ) → i + i < s + b → window b f i ≤ window b f (suc i)
  window-rises zero i l = h.rises i (omega arith)
  window-rises (suc b) i l =
      elim (cases_lt b i) [
        | inl far ↦
            let t : ℕ = i - (b + 1) in
            omega (arith, window-wider b t f i (omega arith), hill_le t (suc i) (omega arith) (omega arith))
        | inr near ↦ omega (arith, window-wide b f i near)
      ]

  -- a window of a hill is a hill
  pub IsHill-window : (b : ℕ) → IsHill (window b f) (b + s)
  IsHill-window b = record {
    far = λ i l. window_far b s f h.far i l;
    mirror = λ i j e. window-mirror b i j (omega arith);
    rises = λ i l. window-rises b i (omega arith);
  }

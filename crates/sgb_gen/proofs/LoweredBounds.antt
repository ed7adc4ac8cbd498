-- Bounds with one less at a place: the vectors of a sum within them, and how many there are.
use Rattle.std.proofs.Common.{◌≡◌, ℕ, zero, suc, ◌+◌, ◌-◌, ◌<◌, ◌≤◌, Bool, false, List, [], ◌∷◌, get_or, set, sum, take, refl, ap, inl, inr, arith, length-set}
use Rattle.std.specs.List.{list_any, range_with_len}
use Rattle.std.proofs.lemmas.Bool.{cases_lt, or_from, or_parts, lt-ltb, le-ltb, both_ways}
use Rattle.std.proofs.lemmas.List.{get_or_past}
use Rattle.std.proofs.lemmas.List.Sums.{sum_by-set}
use Rattle.sgb_vec.specs.Lexicographic.{IsBefore, IsWithin}
use Rattle.sgb_vec.specs.Sums.{has_great_count}
use Rattle.sgb_gen.specs.inner.KeptCounts.{count_of_sum}
use Rattle.sgb_vec.proofs.SumCounts.{count_of_sum-cons}
use Rattle.sgb_vec.proofs.SumSuccessors.{IsBefore-cases, IsBefore-less, IsBefore-same}
use Rattle.sgb_vec.proofs.Windows.{window, window_le, window-wide, window-wider}
use Rattle.sgb_gen.specs.Simplexes.{Places}
use Rattle.sgb_gen.specs.inner.SimplexCounts.{less_at, lowered}

-- ---- vectors with one less at a place

-- vectors that have a unit there stay in order
pub before-less_at : (v w : List ℕ) (i : ℕ) → 0 < get_or v i 0 → 0 < get_or w i 0 → IsBefore v w → IsBefore (less_at v i) (less_at w i)
before-less_at (x ∷ v) (y ∷ w) zero hv hw h = grind (arith, IsBefore-cases, IsBefore-less, IsBefore-same)
before-less_at (x ∷ v) (y ∷ w) (suc i) hv hw h =
    elim (IsBefore-cases x y v w h) [
      | inl less ↦ IsBefore-less x y (less_at v i) (less_at w i) less
      | inr same ↦ IsBefore-same x y (less_at v i) (less_at w i) same.0 (before-less_at v w i hv hw same.1)
    ]
before-less_at _ _ i hv hw h = absurd (omega arith)

-- they are within bounds with one less there
pub within-less_both : (v bounds : List ℕ) (i : ℕ) → IsWithin v bounds → IsWithin (less_at v i) (less_at bounds i)
within-less_both [] [] i h = h
within-less_both (x ∷ v) (b ∷ bounds) zero h = (omega (arith, h.0), h.1)
within-less_both (x ∷ v) (b ∷ bounds) (suc i) h = (h.0, within-less_both v bounds i h.1)
within-less_both _ _ i h = absurd h

-- so is a vector that has room there
pub within-less : (v bounds : List ℕ) (i : ℕ) → get_or v i 0 < get_or bounds i 0 → IsWithin v bounds → IsWithin v (less_at bounds i)
within-less [] [] i room h = h
within-less (x ∷ v) (b ∷ bounds) zero room h = (omega (arith, room), h.1)
within-less (x ∷ v) (b ∷ bounds) (suc i) room h = (h.0, within-less v bounds i room h.1)
within-less _ _ i room h = absurd h

-- numbers with one more at a place
abbrev pub more_at : List ℕ → ℕ → List ℕ
more_at xs i = set xs i (get_or xs i 0 + 1)

pub less-more_at : (xs : List ℕ) (i : ℕ) → less_at (more_at xs i) i ≡ xs
less-more_at [] i = refl
less-more_at (x ∷ xs) zero = ap (λ n. n ∷ xs) (omega arith)
less-more_at (x ∷ xs) (suc i) = ap (λ ys. x ∷ ys) (less-more_at xs i)

-- a vector within bounds with one less at a place has room there
pub within-more : (v bounds : List ℕ) (i : ℕ) → 0 < get_or bounds i 0 → IsWithin v (less_at bounds i) → IsWithin v bounds × (get_or v i 0 < get_or bounds i 0)
within-more v [] i some h = absurd (omega arith)
within-more [] (b ∷ bounds) zero some h = absurd h
within-more [] (b ∷ bounds) (suc i) some h = absurd h
within-more (x ∷ v) (b ∷ bounds) zero some h = ((omega (arith, h.0), h.1), omega (arith, h.0, some))
within-more (x ∷ v) (b ∷ bounds) (suc i) some h = grind (arith, within-more v bounds i some h.1)

-- and can have one more there
pub within-more_both : (v bounds : List ℕ) (i : ℕ) → get_or v i 0 < get_or bounds i 0 → IsWithin v bounds → IsWithin (more_at v i) bounds
within-more_both [] bounds i room h = h
within-more_both (x ∷ v) [] i room h = absurd h
within-more_both (x ∷ v) (b ∷ bounds) zero room h = (omega (arith, room), h.1)
within-more_both (x ∷ v) (b ∷ bounds) (suc i) room h = (h.0, within-more_both v bounds i room h.1)

-- what they add to
pub sum-less_at : (v : List ℕ) (i : ℕ) → 0 < get_or v i 0 → sum (less_at v i) + 1 ≡ sum v
sum-less_at v i some = grind (arith, cases_lt, sum_by-set, get_or_past)

-- ---- how many vectors there are

-- a narrower window has no greater sum
window-narrower : (b : ℕ) (f : ℕ → ℕ) (k : ℕ) → window (b - 1) f k ≤ window b f k
window-narrower zero f k = omega arith
window-narrower (suc b) f k =
    let same : suc b - 1 ≡ b = omega arith in
    let here : window (suc b - 1) f k ≡ window b f k = ap (λ n. window n f k) same in
    elim (cases_lt b k) [
      | inl past ↦ omega (arith, here, window-wider b (k - (b + 1)) f k (omega arith))
      | inr within ↦ omega (arith, here, window-wide b f k within)
    ]

-- with one less at a place there are no more vectors of a sum, also within the first bounds
pub count-lowered_le : (bounds : List ℕ) (m i k : ℕ) → count_of_sum k (take m (less_at bounds i)) ≤ count_of_sum k (take m bounds)
count-lowered_le (b ∷ bounds) (suc m) zero k = grind (arith, count_of_sum-cons, window-narrower)
count-lowered_le (b ∷ bounds) (suc m) (suc i) k =
    let rest = take m bounds in
    let less = take m (less_at bounds i) in
    omega (arith, count_of_sum-cons b less k, count_of_sum-cons b rest k, window_le b (λ j. count_of_sum j less) (λ j. count_of_sum j rest) k (λ j _. count-lowered_le bounds m i j))
count-lowered_le _ _ _ k = omega arith

-- in a shorter range a test that passes less often passes nowhere, where the other one does not
none_fewer : (p q : ℕ → Bool) (m n a : ℕ) → m ≤ n → ((x : ℕ) → p x ≡ false → q x ≡ false) → list_any p (range_with_len a n) ≡ false → list_any q (range_with_len a m) ≡ false
none_fewer p q zero n a le fewer none = refl
none_fewer p q (suc m) zero a le fewer none = absurd (omega arith)
none_fewer p q (suc m) (suc n) a le fewer none = grind (arith, or_parts, or_from, none_fewer p q m n (a + 1) (omega arith) fewer (or_parts (p a) (list_any p (range_with_len (a + 1) n)) none).1)

-- nor with one less at two
pub none_great-lowered : (n : ℕ) (bounds : List ℕ) (at : Places) → has_great_count n bounds ≡ false → has_great_count (n - 1) (lowered bounds at) ≡ false
unfolding has_great_count
none_great-lowered n bounds at none = grind (arith, length-set, none_fewer, count-lowered_le, cases_lt, both_ways, lt-ltb, le-ltb)

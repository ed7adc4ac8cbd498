-- The place of a vector of a bounded sum, by counts that are kept.
use Rattle.std.proofs.Common.{◌≡◌, ℕ, suc, zero, ◌+◌, ◌-◌, ◌<◌, ◌≤◌, List, [], ◌∷◌, ◌++◌, length, drop, sum, get_or, replicate, refl, sym, ap, subst, ◌∙◌, add-one, arith, inl, inr, length-append}
use Rattle.std.specs.List.{Contains}
use Rattle.std.proofs.lemmas.Bool.{cases_lt}
use Rattle.std.proofs.lemmas.List.{drop_more, get_or_append_left, get_or-append_right, get_or-replicate}
use Rattle.sgb_vec.specs.Lexicographic.{IsWithin}
use Rattle.sgb_vec.specs.Sums.{bounded_sums}
use Rattle.sgb_vec.proofs.SumCounts.{count_of_sum-cons, count_of_sum-few}
use Rattle.sgb_vec.proofs.SumMembers.{Contains-bounded_sums}
use Rattle.sgb_vec.proofs.SumPlaces.{IsPlaceSoFar, place-entry_le, place-more}
use Rattle.sgb_vec.proofs.Windows.{up_to, window_after, window_prefix}
use Rattle.sgb_gen.specs.inner.KeptCounts.{HasCounts, HaveCounts, count_of_sum, count_up_to}

-- up to n: those that add to 0, 1, .. n
count_up_to-sums : (n : ℕ) (bounds : List ℕ) → count_up_to n bounds ≡ up_to (λ i. count_of_sum i bounds) n
count_up_to-sums n bounds = count_of_sum-cons n bounds n ∙ window_prefix n (λ i. count_of_sum i bounds) n (omega arith)

-- a sum more
count_up_to-suc : (n : ℕ) (bounds : List ℕ) → count_up_to (suc n) bounds ≡ count_up_to n bounds + count_of_sum (suc n) bounds
count_up_to-suc n bounds = omega (arith, count_up_to-sums (suc n) bounds, count_up_to-sums n bounds)

-- where a bound before the others is no less than the sum, it makes up for all that they lack
count_of_sum-near : (n b : ℕ) (after : List ℕ) → n ≤ b → count_of_sum n (b ∷ after) ≡ count_up_to n after
count_of_sum-near n b after h =
    count_of_sum-cons b after n ∙ window_prefix b (λ i. count_of_sum i after) n h ∙ sym (count_up_to-sums n after)

-- else not for those that lack more
count_of_sum-beyond : (n b i : ℕ) (after : List ℕ) → n ≡ b + 1 + i → count_of_sum n (b ∷ after) + count_up_to i after ≡ count_up_to n after
count_of_sum-beyond n b i after e =
    omega (arith, count_of_sum-cons b after n, window_after b i (λ j. count_of_sum j after) n e, count_up_to-sums n after, count_up_to-sums i after)

-- so a row tells how many vectors add to a sum with a bound more
pub near_of_sum : (row counts after : List ℕ) (total n b : ℕ) → HasCounts total row after → counts ≡ row → n < length row → n ≤ b → get_or counts n 0 ≡ count_of_sum n (b ∷ after)
near_of_sum row counts after total n b has same within h =
    ap (λ xs. get_or xs n 0) same ∙ has.at n (omega (arith, has.long)) ∙ sym (count_of_sum-near n b after h)

pub beyond_of_sum : (row counts after : List ℕ) (total n b : ℕ) → HasCounts total row after → counts ≡ row → n < length row → b < n → get_or counts n 0 - get_or counts (n - b - 1) 0 ≡ count_of_sum n (b ∷ after)
beyond_of_sum row counts after total n b has same within h =
    let i : ℕ = n - b - 1 in
    omega (arith, ap (λ xs. get_or xs n 0) same, ap (λ xs. get_or xs i 0) same, has.at n (omega (arith, has.long)), has.at i (omega (arith, has.long)), count_of_sum-beyond n b i after (omega arith))

-- in a row counts rise
pub counts-rise : (total n i : ℕ) (row bounds : List ℕ) → HasCounts total row bounds → n ≤ total → i ≤ n → get_or row i 0 ≤ get_or row n 0
counts-rise total n i row bounds has small before =
    elim (cases_lt i n) [
      | inl less ↦ omega (arith, has.at n small, has.at i (omega (arith, small, before)), count_of_sum-beyond n (n - i - 1) i bounds (omega (arith, less)))
      | inr last ↦
          let same : i ≡ n = omega (arith, last, before) in
          omega (arith, ap (λ k. get_or row k 0) same)
    ]

-- the row of no bounds: one vector, which adds to 0
pub HasCounts-none : (total : ℕ) (row : List ℕ) → row ≡ replicate (total + 1) 1 → length row ≡ total + 1 → HasCounts total row []
HasCounts-none total row e long = record {
  long = long;
  at = λ n h.
      ap (λ xs. get_or xs n 0) e ∙ get_or-replicate (total + 1) n 1 0 (omega arith)
      ∙ sym (count_of_sum-few (n ∷ []) n (omega arith) (omega arith));
}

-- how many vectors add to less than n
abbrev pub count_before : ℕ → List ℕ → ℕ
count_before zero bounds = 0
count_before (suc n) bounds = count_up_to n bounds

-- those that add to n come to them
count_before-more : (n : ℕ) (bounds : List ℕ) → count_before (n + 1) bounds ≡ count_before n bounds + count_of_sum n bounds
count_before-more zero bounds = omega (arith, count_up_to-sums 0 bounds)
count_before-more (suc n) bounds = ap (λ m. count_before m bounds) (add-one (suc n)) ∙ count_up_to-suc n bounds

-- a row under way: so many counts, and the last of them
pub record IsCounted (n before : ℕ) (row bounds : List ℕ) : Type 0 where
  pub long : length row ≡ n
  pub last : before ≡ count_before n bounds
  pub at : (k : ℕ) → k < n → get_or row k 0 ≡ count_up_to k bounds

-- one count more
pub IsCounted-more : (n before count next : ℕ) (row bounds : List ℕ) → count ≡ count_of_sum n bounds → next ≡ before + count → IsCounted n before row bounds → IsCounted (n + 1) next (row ++ next ∷ []) bounds
IsCounted-more n before count next row bounds e f so =
    let all : next ≡ count_before (n + 1) bounds = omega (arith, so.last, count_before-more n bounds) in
    let here : next ≡ count_up_to n bounds = all ∙ ap (λ m. count_before m bounds) (add-one n) in
    record {
      long = omega (arith, length-append row (next ∷ []), so.long);
      last = all;
      at = λ k h.
          elim (cases_lt k n) [
            | inl earlier ↦ get_or_append_left row (next ∷ []) 0 k (omega (arith, so.long)) ∙ so.at k earlier
            | inr late ↦
                let same : k ≡ n = omega arith in
                let first : n - n ≡ 0 = omega arith in
                ap (λ i. get_or (row ++ next ∷ []) i 0) same
                ∙ get_or-append_right row (next ∷ []) n n 0 so.long (omega arith)
                ∙ ap (λ i. get_or (next ∷ []) i 0) first
                ∙ here
                ∙ ap (λ i. count_up_to i bounds) (sym same)
          ];
    }

-- all of them
pub IsCounted-all : (n before total : ℕ) (row bounds : List ℕ) → n ≡ total + 1 → IsCounted n before row bounds → HasCounts total row bounds
IsCounted-all n before total row bounds e so = record { long = so.long ∙ e; at = λ k h. so.at k (omega arith) }

-- one row more, with the bound before those that are counted
pub HaveCounts-more : (total j : ℕ) (rows : List (List ℕ)) (row more bounds : List ℕ) → HaveCounts total rows bounds → length rows ≡ j → 1 ≤ j → j < length bounds → get_or rows (j - 1) [] ≡ row
    → ((t : ℕ) (after : List ℕ) → HasCounts t row after → HasCounts t more (get_or bounds (length bounds - j) 0 ∷ after))
    → HaveCounts total (rows ++ more ∷ []) bounds
HaveCounts-more total j rows row more bounds have long some few last with i h =
    elim (cases_lt i j) [
      | inl earlier ↦
          subst (λ r. HasCounts total r (drop (length bounds - i) bounds)) (sym (get_or_append_left rows (more ∷ []) [] i (omega (arith, long)))) (have i (omega (arith, long)))
      | inr late ↦
          let size : length (rows ++ more ∷ []) ≡ j + 1 = omega (arith, length-append rows (more ∷ []), long) in
          let same : i ≡ j = omega (arith, size) in
          let first : j - j ≡ 0 = omega arith in
          let this : get_or (rows ++ more ∷ []) i [] ≡ more =
          ap (λ k. get_or (rows ++ more ∷ []) k []) same
          ∙ get_or-append_right rows (more ∷ []) j j [] long (omega arith)
          ∙ ap (λ k. get_or (more ∷ []) k []) first in
          let at : ℕ = length bounds - j in
          let next : drop at bounds ≡ get_or bounds at 0 ∷ drop (at + 1) bounds = drop_more bounds at 0 (omega arith) in
          let before : length bounds - (j - 1) ≡ at + 1 = omega arith in
          let old : HasCounts total row (drop (at + 1) bounds) =
          subst (λ n. HasCounts total row (drop n bounds)) before (subst (λ r. HasCounts total r (drop (length bounds - (j - 1)) bounds)) last (have (j - 1) (omega (arith, long)))) in
          let new : HasCounts total more (drop at bounds) = subst (HasCounts total more) (sym next) (with total (drop (at + 1) bounds) old) in
          subst (λ r. HasCounts total r (drop (length bounds - i) bounds)) (sym this) (subst (λ k. HasCounts total more (drop (length bounds - k) bounds)) (sym same) new)
    ]

-- an entry of 0 more
pub place-zero : (n : ℕ) (bounds v : List ℕ) (k left place : ℕ) → k < length v → IsWithin v bounds → get_or v k 0 ≡ 0 → IsPlaceSoFar n bounds v k left place → IsPlaceSoFar n bounds v (k + 1) left place
place-zero n bounds v k left place h within e so =
    let more = place-more n bounds v k left place 0 h within (rw e refl) so in
    subst (λ l. IsPlaceSoFar n bounds v (k + 1) l place) (omega (arith, e)) (subst (λ p. IsPlaceSoFar n bounds v (k + 1) (left - get_or v k 0) p) (omega arith) more)

-- an entry more: those before it are the difference of two counts
pub place-counted : (n : ℕ) (bounds v row : List ℕ) (k left place count x : ℕ) → k < length v → IsWithin v bounds → x ≡ get_or v k 0 → (x ≡ 0 → ⊥) → HasCounts n row (drop (k + 1) bounds) → count ≡ get_or row left 0 - get_or row (left - x) 0 → IsPlaceSoFar n bounds v k left place → IsPlaceSoFar n bounds v (k + 1) (left - x) (place + count)
place-counted n bounds v row k left place count zero h within e some has f so = absurd (some refl)
place-counted n bounds v row k left place count (suc y) h within e some has f so =
    let after = drop (k + 1) bounds in
    let low : suc y ≤ left = omega (arith, e, place-entry_le n bounds v k left place h so) in
    let i : ℕ = left - suc y in
    let count_is : count ≡ count_of_sum left (y ∷ after) =
    omega (arith, f, has.at left so.small, has.at i (omega (arith, so.small)), count_of_sum-beyond left y i after (omega (arith, low))) in
    let more = place-more n bounds v k left place count h within (rw (sym e) count_is) so in
    subst (λ m. IsPlaceSoFar n bounds v (k + 1) (left - m) (place + count)) (sym e) more

-- any entry more: of 0 no vector comes before
pub place-step : (n : ℕ) (bounds v row : List ℕ) (k left rest place count x : ℕ) → k < length v → IsWithin v bounds → x ≡ get_or v k 0 → rest ≡ left - x → HasCounts n row (drop (k + 1) bounds) → count ≡ get_or row left 0 - get_or row rest 0 → IsPlaceSoFar n bounds v k left place → IsPlaceSoFar n bounds v (k + 1) rest (place + count)
place-step n bounds v row k left rest place count zero h within e down has f so =
    let same : left ≡ rest = omega (arith, down) in
    let none : place ≡ place + count = omega (arith, f, ap (λ m. get_or row m 0) same) in
    subst (λ m. IsPlaceSoFar n bounds v (k + 1) m (place + count)) same (subst (λ p. IsPlaceSoFar n bounds v (k + 1) left p) none (place-zero n bounds v k left place h within (sym e) so))
place-step n bounds v row k left rest place count (suc y) h within e down has f so =
    let some : suc y ≡ 0 → ⊥ = λ zero. omega (arith, zero) in
    let counted = place-counted n bounds v row k left place count (suc y) h within e some has (f ∙ ap (λ m. get_or row left 0 - get_or row m 0) down) so in
    subst (λ m. IsPlaceSoFar n bounds v (k + 1) m (place + count)) (sym down) counted

-- each row has a count of each sum up to the total
pub row-long : (total j : ℕ) (rows : List (List ℕ)) (row bounds : List ℕ) → HaveCounts total rows bounds → j < length rows → get_or rows j [] ≡ row → length row ≡ total + 1
row-long total j rows row bounds have within at = ap length (sym at) ∙ (have j within).long

-- the row of an entry: that of the bounds after it
pub row_after : (total k : ℕ) (rows : List (List ℕ)) (row bounds v : List ℕ) → HaveCounts total rows bounds → length bounds ≤ length rows → length v ≡ length bounds → k < length v → get_or rows (length v - 1 - k) [] ≡ row → HasCounts total row (drop (k + 1) bounds)
row_after total k rows row bounds v have enough long h at =
    let same : length bounds - (length v - 1 - k) ≡ k + 1 = omega (arith, long) in
    subst (λ r. HasCounts total r (drop (k + 1) bounds)) at
    (subst (λ n. HasCounts total (get_or rows (length v - 1 - k) []) (drop n bounds)) same (have (length v - 1 - k) (omega (arith, long))))

-- a vector is within the bounds, and adds to the total
pub member_is_within : (n : ℕ) (bounds v : List ℕ) (vectors : List (List ℕ)) → bounded_sums n bounds ≡ vectors → Contains vectors v → IsWithin v bounds × (sum v ≡ n)
member_is_within n bounds v vectors e member = (Contains-bounded_sums n bounds v).0 (subst (λ vs. Contains vs v) (sym e) member)

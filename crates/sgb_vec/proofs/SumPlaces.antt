-- The place of a vector among those of a bounded sum: at each entry the vectors that have a smaller one there come before.
use Rattle.sgb_vec.proofs.Common.{rules, ◌≡◌, ℕ, suc, zero, ◌+◌, ◌-◌, ◌<◌, ◌≤◌, Bool, eqb, min, List, [], ◌∷◌, ◌++◌, length, map, filter, take, drop, sum, set, get_or, Some, refl, sym, ap, subst, ◌∙◌, add-one, arith, length-append, OnTrue, OnFalse, Contains, flat_map, range_with_len, slice_get, cases_lt, append-nil, append_assoc, drop_more, drop_all, take_all, take_more, take_more_set, AllZip-get_or, filter-append, get_or_from_slice_get, slice_get-get_or, slice_get-map, slice_get_within}
use Rattle.sgb_vec.specs.Boxes.{box}
use Rattle.sgb_vec.specs.Lexicographic.{IsWithin}
use Rattle.sgb_vec.specs.Order.{IsLast, IsNext}
use Rattle.sgb_vec.specs.Sums.{bounded_sums}
use Rattle.sgb_vec.specs.inner.SumRows.{count_of_sum}
use Rattle.sgb_vec.specs.inner.SumPlaces.{count_below}
use Rattle.sgb_vec.proofs.Lists.{slice_get-left}
use Rattle.sgb_vec.proofs.SumCounts.{filter-map, tally, count_of_sum-nil, count_of_sum-cons}
use Rattle.sgb_vec.proofs.SumMembers.{Contains-bounded_sums, IsWithin-length}
use Rattle.sgb_vec.proofs.SumSuccessors.{sum-cons}
use Rattle.sgb_vec.proofs.SumTails.{IsWithin-drop}
use Rattle.sgb_vec.proofs.Windows.{window_prefix, window-wider}

-- an element of the second of two lists
slice_get-right : {X : Type 0} (xs ys : List X) (m j : ℕ) (u : X) → m ≡ length xs + j → slice_get ys j ≡ Some u → slice_get (xs ++ ys) m ≡ Some u
slice_get-right [] ys m j u e h = let same : m ≡ j = omega arith in ap (slice_get ys) same ∙ h
slice_get-right (x ∷ xs) ys zero j u e h = absurd (omega arith)
slice_get-right (x ∷ xs) ys (suc m) j u e h = slice_get-right xs ys m j u (omega arith) h

-- with x in front, those that add to n are those that add to n - x
row-at : (vectors : List (List ℕ)) (n x j : ℕ) (w : List ℕ) → x ≤ n → slice_get (filter (λ v. eqb (sum v) (n - x)) vectors) j ≡ Some w → slice_get (filter (λ v. eqb (sum v) n) (map (λ v. x ∷ v) vectors)) j ≡ Some (x ∷ w)
row-at vectors n x j w low e =
    let adds : List ℕ → Bool = λ v. eqb (sum v) (n - x) in
    let same : (v : List ℕ) → eqb (sum (x ∷ v)) n ≡ eqb (sum v) (n - x) = grind (arith, sum-cons) in
    ap (λ vs. slice_get vs j) (filter-map (λ v. eqb (sum v) n) adds (λ v. x ∷ v) same vectors)
    ∙ slice_get-map (λ v. x ∷ v) (filter adds vectors) j
    ∙ ap (λ o. elim o as (λ _. Rattle.std.specs.Prelude.Option (List ℕ)) [ Some v ↦ Some (x ∷ v) | Rattle.std.specs.Prelude.None ↦ Rattle.std.specs.Prelude.None ]) e

-- those with first entries from a on: before the ones with y all with smaller entries stand
rows-at : (vectors : List (List ℕ)) (n a count i y j : ℕ) (u : List ℕ) → i < count → y ≡ a + i → slice_get (filter (λ v. eqb (sum v) n) (map (λ v. y ∷ v) vectors)) j ≡ Some u
    → slice_get (filter (λ v. eqb (sum v) n) (flat_map (λ x. map (λ v. x ∷ v) vectors) (range_with_len a count))) (tally (flat_map (λ x. map (λ v. x ∷ v) vectors) (range_with_len a i)) n + j) ≡ Some u
rows-at vectors n a zero i y j u h s e = absurd (omega arith)
rows-at vectors n a (suc count) zero y j u h s e = grind (arith, filter-append, slice_get-left)
rows-at vectors n a (suc count) (suc i) y j u h s e = grind (arith, filter-append, slice_get-right, length-append, rows-at vectors n (a + 1) count i y j u (omega arith) (omega arith) e)

-- a vector with an entry in front comes as much later as vectors have a smaller entry there
place-front : (n b x : ℕ) (after w : List ℕ) (j : ℕ) → x ≤ b → x ≤ n → slice_get (bounded_sums (n - x) after) j ≡ Some w → slice_get (bounded_sums n (b ∷ after)) (count_below n x after + j) ≡ Some (x ∷ w)
unfolding box bounded_sums
place-front n b x after w j low within e =
    let vectors = box (map (λ c. c + 1) after) in
    let count : (y : ℕ) → count_below n y after ≡ tally (flat_map (λ z. map (λ v. z ∷ v) vectors) (range_with_len 0 y)) n = λ y. counted y in
    let place : x ≡ 0 + x = omega arith in
    ap (λ m. slice_get (bounded_sums n (b ∷ after)) (m + j)) (count x)
    ∙ rows-at vectors n 0 (b + 1) x x j (x ∷ w) (omega arith) place (row-at vectors n x j w within e)
  where
    counted : (y : ℕ) → count_below n y after ≡ tally (flat_map (λ z. map (λ v. z ∷ v) (box (map (λ c. c + 1) after))) (range_with_len 0 y)) n
    counted zero = refl
    counted (suc y) = ap (λ m. tally (flat_map (λ z. map (λ v. z ∷ v) (box (map (λ c. c + 1) after))) (range_with_len 0 m)) n) (add-one y)

-- below an entry more there are also those that have it
pub count_below-more : (n x : ℕ) (after : List ℕ) → x ≤ n → count_below n (x + 1) after ≡ count_below n x after + count_of_sum (n - x) after
count_below-more n zero after h = grind (arith, count_of_sum-cons)
count_below-more n (suc x) after h =
    let f : ℕ → ℕ = λ k. count_of_sum k after in
    omega (arith, ap (λ m. count_below n m after) (add-one (suc x)), count_of_sum-cons (suc x) after n, count_of_sum-cons x after n, window-wider x (n - suc x) f n (omega arith))

-- below an entry more than the greatest there are all
pub count_below-all : (n b m : ℕ) (after : List ℕ) → m ≡ min b n → count_below n (m + 1) after ≡ count_of_sum n (b ∷ after)
count_below-all n b m after e = grind (arith, count_of_sum-cons, window_prefix)

-- with the entries `front` before it each vector of what is left, at a place of its own, stands `before` later among all
pub record LeadsTo (n : ℕ) (bounds front : List ℕ) (left : ℕ) (after : List ℕ) (before : ℕ) : Type 0 where
  pub each : (j : ℕ) (w : List ℕ) → slice_get (bounded_sums left after) j ≡ Some w → slice_get (bounded_sums n bounds) (before + j) ≡ Some (front ++ w)

-- one entry more
leads-more : (n : ℕ) (bounds front : List ℕ) (left b x : ℕ) (after : List ℕ) (before : ℕ) → x ≤ b → x ≤ left → LeadsTo n bounds front left (b ∷ after) before → LeadsTo n bounds (front ++ x ∷ []) (left - x) after (before + count_below left x after)
leads-more n bounds front left b x after before low within so = record {
  each = λ j w e.
      let grouped : front ++ (x ∷ w) ≡ (front ++ x ∷ []) ++ w = sym (append_assoc front (x ∷ []) w) in
      ap (slice_get (bounded_sums n bounds)) (omega arith)
      ∙ so.each (count_below left x after + j) (x ∷ w) (place-front left b x after w j low within e)
      ∙ ap Some grouped;
}

-- all entries: the empty vector is left
leads-all : (n : ℕ) (bounds front : List ℕ) (before : ℕ) → LeadsTo n bounds front 0 [] before → slice_get (bounded_sums n bounds) before ≡ Some front
unfolding box bounded_sums
leads-all n bounds front before so =
    ap (slice_get (bounded_sums n bounds)) (omega arith) ∙ so.each 0 [] refl ∙ ap Some (append-nil front)

-- the first k entries are those of the vector at `place`, which is the one at `rest` of what is left
pub record IsPutUpTo (n : ℕ) (bounds : List ℕ) (place : ℕ) (entries : List ℕ) (k left rest : ℕ) : Type 0 where
  pub leads : LeadsTo n bounds (take k entries) left (drop k bounds) (place - rest)
  pub low : rest ≤ place
  pub within : rest < count_of_sum left (drop k bounds)
  pub small : left ≤ n

-- one entry more
pub put-more : (n : ℕ) (bounds : List ℕ) (place : ℕ) (entries : List ℕ) (k left rest x before : ℕ) → k < length bounds → k < length entries → x ≤ get_or bounds k 0 → x ≤ left → before ≡ count_below left x (drop (k + 1) bounds) → before ≤ rest → rest < count_below left (x + 1) (drop (k + 1) bounds) → IsPutUpTo n bounds place entries k left rest → IsPutUpTo n bounds place (set entries k x) (k + 1) (left - x) (rest - before)
put-more n bounds place entries k left rest x before h i low within count least most so =
    let after = drop (k + 1) bounds in
    let from : drop k bounds ≡ get_or bounds k 0 ∷ after = drop_more bounds k 0 h in
    let leads : LeadsTo n bounds (take k entries) left (get_or bounds k 0 ∷ after) (place - rest) = subst (λ bs. LeadsTo n bounds (take k entries) left bs (place - rest)) from so.leads in
    let next : LeadsTo n bounds (take k entries ++ x ∷ []) (left - x) after (place - rest + count_below left x after) = leads-more n bounds (take k entries) left (get_or bounds k 0) x after (place - rest) low within leads in
    grind (arith, take_more_set, count_below-more)

-- nothing is left without a bound
left-none : (left rest : ℕ) → rest < count_of_sum left [] → (left ≡ 0) × (rest ≡ 0)
left-none zero rest h = (refl, omega (arith, count_of_sum-nil 0))
left-none (suc left) rest h = absurd (omega (arith, count_of_sum-nil (suc left)))

-- all entries
pub put-all : (n : ℕ) (bounds : List ℕ) (place : ℕ) (entries : List ℕ) (k left rest : ℕ) → length bounds ≤ k → length entries ≤ k → IsPutUpTo n bounds place entries k left rest → slice_get (bounded_sums n bounds) place ≡ Some entries
put-all n bounds place entries k left rest h i so =
    let no_bounds : drop k bounds ≡ [] = drop_all k bounds h in
    let none = left-none left rest (subst (λ bs. rest < count_of_sum left bs) no_bounds so.within) in
    grind (arith, leads-all, take_all)

-- the first k entries make `place` of the vector's place
pub record IsPlaceSoFar (n : ℕ) (bounds v : List ℕ) (k left place : ℕ) : Type 0 where
  pub leads : LeadsTo n bounds (take k v) left (drop k bounds) place
  pub adds : left ≡ sum (drop k v)
  pub small : left ≤ n

-- no entry yet
pub place-none : (n : ℕ) (bounds v : List ℕ) → sum v ≡ n → IsPlaceSoFar n bounds v 0 n 0
place-none n bounds v e = grind (arith)

-- an entry is at most what is left
pub place-entry_le : (n : ℕ) (bounds v : List ℕ) (k left place : ℕ) → k < length v → IsPlaceSoFar n bounds v k left place → left ≡ get_or v k 0 + sum (drop (k + 1) v)
place-entry_le n bounds v k left place h so = so.adds ∙ ap sum (drop_more v k 0 h) ∙ sum-cons (get_or v k 0) (drop (k + 1) v)

-- one entry more
pub place-more : (n : ℕ) (bounds v : List ℕ) (k left place count : ℕ) → k < length v → IsWithin v bounds → count ≡ count_below left (get_or v k 0) (drop (k + 1) bounds) → IsPlaceSoFar n bounds v k left place → IsPlaceSoFar n bounds v (k + 1) (left - get_or v k 0) (place + count)
place-more n bounds v k left place count h within e so =
    let x = get_or v k 0 in
    let after = drop (k + 1) bounds in
    let i : k < length bounds = omega (arith, IsWithin-length bounds v within) in
    let from : drop k bounds ≡ get_or bounds k 0 ∷ after = drop_more bounds k 0 i in
    let sums = place-entry_le n bounds v k left place h so in
    let leads : LeadsTo n bounds (take k v) left (get_or bounds k 0 ∷ after) place = subst (λ bs. LeadsTo n bounds (take k v) left bs place) from so.leads in
    let next = leads-more n bounds (take k v) left (get_or bounds k 0) x after place (AllZip-get_or (λ y b. y ≤ b) v bounds k 0 0 within h) (omega (arith, sums)) leads in
    grind (arith, take_more)

-- what is made so far is below the number of vectors
pub place-below : (n : ℕ) (bounds v : List ℕ) (k left place : ℕ) → IsWithin v bounds → IsPlaceSoFar n bounds v k left place → place < count_of_sum n bounds
place-below n bounds v k left place within so =
    let member = (Contains-bounded_sums left (drop k bounds) (drop k v)).1 (IsWithin-drop bounds v k within, sym so.adds) in
    let j : ℕ = member.0 in
    let found : slice_get (bounded_sums left (drop k bounds)) j ≡ Some (drop k v) = slice_get-get_or (bounded_sums left (drop k bounds)) j (drop k v) member.1 ∙ ap Some member.2 in
    omega (arith, slice_get_within (bounded_sums n bounds) (place + j) _ (so.leads.each j (drop k v) found))

-- all entries
pub place-all : (n : ℕ) (bounds v : List ℕ) (k left place : ℕ) → length v ≤ k → IsWithin v bounds → IsPlaceSoFar n bounds v k left place → slice_get (bounded_sums n bounds) place ≡ Some v
place-all n bounds v k left place h within so = grind (arith, drop_all, IsWithin-length, leads-all, take_all)

-- a walk from member to member: the next one stands at the next place
pub walk-step : (xs : List (List ℕ)) (n k : ℕ) (old new : List ℕ) (more : Bool) → n ≡ length xs → k < n - 1 → slice_get xs k ≡ Some old → OnTrue more (IsNext xs old new) → OnFalse more (IsLast xs old) → slice_get xs (k + 1) ≡ Some new
walk-step xs n k old new more e h here next last = grind (arith)

-- where the member is not the one that is looked for, that one stands later
pub walk-other : (xs : List (List ℕ)) (k p : ℕ) (w v : List ℕ) → k ≤ p → slice_get xs k ≡ Some w → (w ≡ v → ⊥) → slice_get xs p ≡ Some v → k + 1 ≤ p
walk-other xs k p w v low here other there = grind (arith, cases_lt, get_or_from_slice_get)

-- where only the last place is left, it stands there
pub walk-end : (xs : List (List ℕ)) (n k : ℕ) (v : List ℕ) → n ≡ length xs → Contains xs v → n - 1 ≤ k → ((p : ℕ) → slice_get xs p ≡ Some v → k ≤ p) → slice_get xs (n - 1) ≡ Some v
walk-end xs n k v e member h least = search (rules, slice_get-get_or)

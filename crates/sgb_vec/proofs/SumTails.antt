-- The vectors of a bounded sum built, and looked through: what holds of the entries from a place on, or before it.
use borrow.Rule.Slice.PartMut.{put_mid}
use Rattle.sgb_vec.proofs.Common.{rules, ◌≡◌, ℕ, zero, suc, ◌+◌, ◌-◌, ◌<◌, ◌≤◌, ◌⊎◌, Bool, true, false, min, List, [], ◌∷◌, ◌++◌, length, get_or, set, drop, take, refl, sym, arith, sum, add-one, append-nil, append_assoc, drop_more, drop_all, drop-set, take_all, take_more_set, length-drop, AllZip-get_or, sum_by-take-drop, sum_by-drop_more}
use Rattle.sgb_vec.specs.Sums.{bounded_sums}
use Rattle.sgb_vec.specs.Lexicographic.{IsWithin}
use Rattle.sgb_vec.specs.Order.{IsFinal, IsFirst, IsNext, IsLast, IsPrevious}
use Rattle.sgb_vec.proofs.SumMembers.{IsWithin-length}
use Rattle.sgb_vec.proofs.SumSuccessors.{sum-cons, IsLeast, IsGreatest, IsLeast-nil, IsGreatest-cons, IsNearest-at, IsNearest-fallen, IsWithin-fallen, none_below-cons}
use Rattle.sgb_vec.proofs.SumWalks.{IsFirst-least, IsLeast-first, first-within, IsLast-greatest, IsGreatest-last, IsNext-nearest, IsPrevious-nearest, IsFinal-greatest, IsGreatest-final, final-within}

-- the entries from a place on are the least of their sum, and `rest` of the total has found no room there
pub record IsFilledFrom (bounds entries : List ℕ) (place rest total : ℕ) : Type 0 where
  pub least : IsLeast (drop place bounds) (drop place entries)
  pub adds : rest + sum (drop place entries) ≡ total
  pub full : 0 < rest → sum (drop place entries) ≡ sum (drop place bounds)

-- no entry yet
pub filled-none : (bounds entries : List ℕ) (total : ℕ) → length entries ≡ length bounds → IsFilledFrom bounds entries (length bounds) total total
filled-none bounds entries total same = grind (arith, drop_all, IsLeast-nil)

-- one entry more
pub filled-more : (bounds entries : List ℕ) (p q rest total : ℕ) → q ≡ p + 1 → p < length bounds → p < length entries → IsFilledFrom bounds entries q rest total → IsFilledFrom bounds (set entries p (min rest (get_or bounds p 0))) p (rest - min rest (get_or bounds p 0)) total
filled-more bounds entries p q rest total next h k so = grind (arith, drop_more, drop-set, sum-cons, none_below-cons)

-- all entries are the first vector, where there is room for the total
pub filled-all : (bounds entries : List ℕ) (rest total : ℕ) → total ≤ sum bounds → IsFilledFrom bounds entries 0 rest total → IsFirst (bounded_sums total bounds) entries
filled-all bounds entries rest total room so = grind (arith, IsFirst-least)

-- the entries before a place are such that, with the greatest vector of what is left for the others, all are the
-- greatest of the total
pub record IsFilledUpTo (bounds entries : List ℕ) (place rest total : ℕ) : Type 0 where
  pub room : rest ≤ sum (drop place bounds)
  pub greatest : (w : List ℕ) → IsGreatest (drop place bounds) w → sum w ≡ rest → IsGreatest bounds (take place entries ++ w) × (sum (take place entries ++ w) ≡ total)

-- one entry more
pub filled_up-more : (bounds entries : List ℕ) (p rest total : ℕ) → p < length bounds → p < length entries → IsFilledUpTo bounds entries p rest total → IsFilledUpTo bounds (set entries p (min rest (get_or bounds p 0))) (p + 1) (rest - min rest (get_or bounds p 0)) total
filled_up-more bounds entries p rest total h k so =
    let b = get_or bounds p 0 in
    let x = min rest b in
    let bounds_from : drop p bounds ≡ b ∷ drop (p + 1) bounds = drop_more bounds p 0 h in
    let written : take (p + 1) (set entries p x) ≡ take p entries ++ (x ∷ []) = take_more_set entries p x k in
    let room_here : rest ≤ sum (b ∷ drop (p + 1) bounds) = rw bounds_from at so.room in
    record {
      room = omega (arith, room_here, sum-cons b (drop (p + 1) bounds));
      greatest = λ w greatest adds.
          let whole = IsGreatest-cons b x (drop (p + 1) bounds) w greatest (omega arith) (λ some. omega arith) in
          let regrouped : take (p + 1) (set entries p x) ++ w ≡ take p entries ++ (x ∷ w) = rw written (simp append_assoc) in
          rw regrouped (so.greatest (x ∷ w) (rw bounds_from whole) (omega (arith, sum-cons x w)));
    }

-- all entries are the last vector
pub filled_up-all : (bounds entries : List ℕ) (place rest total : ℕ) → length bounds ≤ place → length entries ≤ place → IsFilledUpTo bounds entries place rest total → IsFinal (bounded_sums total bounds) entries
filled_up-all bounds entries place rest total high all so = grind (arith, drop_all, take_all, append-nil, IsFinal-greatest)

-- the entries from a place on are the greatest of their sum, which is `after`
pub record IsGreatestFrom (bounds entries : List ℕ) (place after : ℕ) : Type 0 where
  pub greatest : IsGreatest (drop place bounds) (drop place entries)
  pub adds : after ≡ sum (drop place entries)

-- no entry yet
pub greatest-none : (bounds entries : List ℕ) → IsWithin entries bounds → IsGreatestFrom bounds entries (length entries) 0
greatest-none bounds entries within = grind (arith, drop_all, IsWithin-length)

-- one entry more, which cannot grow at the cost of those after it
pub greatest-more : (bounds entries : List ℕ) (p q after : ℕ) → q ≡ p + 1 → IsWithin entries bounds → p < length entries → (0 < after → get_or bounds p 0 ≤ get_or entries p 0) → IsGreatestFrom bounds entries q after → IsGreatestFrom bounds entries p (after + get_or entries p 0)
greatest-more bounds entries p q after next within k top so =
    let b = get_or bounds p 0 in
    let h : p < length bounds = omega (arith, IsWithin-length bounds entries within) in
    let bounds_from : drop p bounds ≡ b ∷ drop q bounds = rw next (drop_more bounds p 0 h) in
    grind (arith, drop_more, AllZip-get_or, sum-cons)

-- what one entry more makes of it is at most what all entries add to
pub after-more_le : (entries : List ℕ) (p q after : ℕ) → q ≡ p + 1 → p < length entries → after ≡ sum (drop q entries) → after + get_or entries p 0 ≤ sum entries
after-more_le entries p q after next k adds =
    let entries_from : sum (drop p entries) ≡ get_or entries p 0 + sum (drop q entries) = rw next (sum_by-drop_more (λ x. x) entries p 0 k) in
    omega (arith, sum_by-take-drop (λ x. x) entries p)

-- all entries are the last vector
pub greatest-all : (bounds entries : List ℕ) (after : ℕ) → IsGreatestFrom bounds entries 0 after → IsLast (bounded_sums (sum entries) bounds) entries
greatest-all bounds entries after so = IsLast-greatest (sum entries) bounds entries so.greatest refl

-- the entries from a place on are the least of their sum, which is `after`, and there is room for more or not
pub record IsLeastFrom (bounds entries : List ℕ) (place after : ℕ) (has_room : Bool) : Type 0 where
  pub least : IsLeast (drop place bounds) (drop place entries)
  pub adds : after ≡ sum (drop place entries)
  pub room : has_room ≡ true → sum (drop place entries) < sum (drop place bounds)
  pub full : has_room ≡ false → sum (drop place entries) ≡ sum (drop place bounds)

-- no entry yet
pub least-none : (bounds entries : List ℕ) → IsWithin entries bounds → IsLeastFrom bounds entries (length entries) 0 false
least-none bounds entries within = grind (arith, drop_all, IsWithin-length)

-- one entry more, which is 0 or has no room after it
pub least-more : (bounds entries : List ℕ) (p q after : ℕ) (has_room now : Bool) → q ≡ p + 1 → IsWithin entries bounds → p < length entries → (has_room ≡ true → get_or entries p 0 ≡ 0) → (now ≡ true → (has_room ≡ true) ⊎ (get_or entries p 0 < get_or bounds p 0)) → (now ≡ false → (has_room ≡ false) × (get_or bounds p 0 ≤ get_or entries p 0)) → IsLeastFrom bounds entries q after has_room → IsLeastFrom bounds entries p (after + get_or entries p 0) now
least-more bounds entries p q after has_room now next within k zero_entry some_room no_room so = grind (arith, IsWithin-length, drop_more, AllZip-get_or, sum-cons, none_below-cons)

-- all entries are the first vector
pub least-all : (bounds entries : List ℕ) (after : ℕ) (has_room : Bool) → IsLeastFrom bounds entries 0 after has_room → IsFirst (bounded_sums (sum entries) bounds) entries
least-all bounds entries after has_room so = IsFirst-least (sum entries) bounds entries so.least refl

-- the entries from a place on are within the bounds from there on
pub IsWithin-drop : (bounds v : List ℕ) (p : ℕ) → IsWithin v bounds → IsWithin (drop p v) (drop p bounds)
IsWithin-drop bounds v zero h = h
IsWithin-drop [] [] (suc p) h = tt
IsWithin-drop (b ∷ bounds) (x ∷ v) (suc p) h = IsWithin-drop bounds v p h.1
IsWithin-drop _ _ _ h = absurd h

-- what a write at p and then of all that is after it leaves
pub put_mid-tail : (v w : List ℕ) (p x : ℕ) → p < length v → put_mid (p + 1) (length (set v p x) - (p + 1)) (set v p x) w ≡ take p v ++ (x ∷ w)
put_mid-tail v w p x h = search (rules, take_more_set, drop_all, length-drop, append-nil, append_assoc)

-- the step to the next vector: the entry at p grows, and the others after it become the first of their sum
pub IsNext-step : (bounds v w : List ℕ) (p after less : ℕ) → IsWithin v bounds → p < length v → get_or v p 0 < get_or bounds p 0 → after ≡ sum (drop (p + 1) v) → less + 1 ≡ after → IsLast (bounded_sums after (drop (p + 1) bounds)) (drop (p + 1) v) → IsFirst (bounded_sums less (drop (p + 1) bounds)) w → IsNext (bounded_sums (sum v) bounds) v (take p v ++ ((get_or v p 0 + 1) ∷ w))
IsNext-step bounds v w p after less within h low adds one last first =
    let tail = IsWithin-drop bounds v (suc p) within in
    let q : p + 1 ≡ suc p = add-one p in
    let last_after : IsLast (bounded_sums after (drop (suc p) bounds)) (drop (suc p) v) = rw q at last in
    let first_after : IsFirst (bounded_sums less (drop (suc p) bounds)) w = rw q at first in
    let adds_after : after ≡ sum (drop (suc p) v) = rw q at adds in
    let greatest = IsGreatest-last after (drop (suc p) bounds) (drop (suc p) v) tail (sym adds_after) last_after in
    let parts = first-within less (drop (suc p) bounds) w first_after in
    let least = IsLeast-first less (drop (suc p) bounds) w first_after in
    IsNext-nearest (sum v) bounds v _ (IsNearest-at bounds v w p within h low greatest least (omega (arith, parts.1))) refl

-- the step to the vector before: the entry at p falls, and the others after it become the last of their sum
pub IsPrevious-step : (bounds v w : List ℕ) (p after more : ℕ) → IsWithin v bounds → p < length v → 0 < get_or v p 0 → after ≡ sum (drop (p + 1) v) → more ≡ after + 1 → IsFirst (bounded_sums after (drop (p + 1) bounds)) (drop (p + 1) v) → IsFinal (bounded_sums more (drop (p + 1) bounds)) w → IsPrevious (bounded_sums (sum v) bounds) v (take p v ++ ((get_or v p 0 - 1) ∷ w))
IsPrevious-step bounds v w p after more within h some adds one first last =
    let q : p + 1 ≡ suc p = add-one p in
    let first_after : IsFirst (bounded_sums after (drop (suc p) bounds)) (drop (suc p) v) = rw q at first in
    let last_after : IsFinal (bounded_sums more (drop (suc p) bounds)) w = rw q at last in
    let adds_after : after ≡ sum (drop (suc p) v) = rw q at adds in
    let least = IsLeast-first after (drop (suc p) bounds) (drop (suc p) v) first_after in
    let parts = final-within more (drop (suc p) bounds) w last_after in
    let greatest = IsGreatest-final more (drop (suc p) bounds) w last_after in
    IsPrevious-nearest (sum v) bounds v _ (IsWithin-fallen bounds v w p within h parts.0) (IsNearest-fallen bounds v w p within h some least greatest (omega (arith, parts.1))) refl

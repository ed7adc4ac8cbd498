-- The vectors within bounds that add to the same: the least, the greatest, and the steps from one to the
-- next and back.
use Rattle.sgb_vec.proofs.Common.{rules, ◌≡◌, ℕ, zero, suc, ◌+◌, ◌-◌, ◌<◌, ◌≤◌, ◌⊎◌, List, [], ◌∷◌, ◌++◌, length, get_or, drop, take, arith, sum, cases_order, nat_list_cmp_total, sum_by-cons}
use Rattle.std.specs.Cmp.{nat_cmp_is}
use Rattle.std.specs.declared.cmp.Ordering.TheVariants.{Less, Equal}
use Rattle.sgb_vec.specs.Lexicographic.{IsBefore, IsWithin}
use Rattle.sgb_vec.proofs.RisingLists.{IsAsymmetric}

-- the entries of a vector add to the first and what the others add to
pub sum-cons : (x : ℕ) (v : List ℕ) → sum (x ∷ v) ≡ x + sum v
sum-cons x v = sum_by-cons (λ y. y) x v

-- no two vectors are each before the other
pub IsBefore-asymmetric : IsAsymmetric IsBefore
IsBefore-asymmetric v w h k = search (rules, nat_list_cmp_total)

-- a vector with a smaller first entry is before
pub IsBefore-less : (x y : ℕ) (v w : List ℕ) → x < y → IsBefore (x ∷ v) (y ∷ w)
IsBefore-less x y v w less = rw (← nat_cmp_is x y Less less)

-- after the same first entry the others decide
pub IsBefore-same : (x y : ℕ) (v w : List ℕ) → x ≡ y → IsBefore v w → IsBefore (x ∷ v) (y ∷ w)
IsBefore-same x y v w same after = rw (← nat_cmp_is x y Equal same) after

-- and there is no other way
pub IsBefore-cases : (x y : ℕ) (v w : List ℕ) → IsBefore (x ∷ v) (y ∷ w) → (x < y) ⊎ ((x ≡ y) × IsBefore v w)
IsBefore-cases x y v w h = search (rules, cases_order)

-- a vector within bounds adds to at most what these add to
pub sum-within : (bounds v : List ℕ) → IsWithin v bounds → sum v ≤ sum bounds
sum-within [] [] h = omega arith
sum-within (b ∷ bounds) (x ∷ v) h = omega (arith, h.0, sum-within bounds v h.1, sum-cons x v, sum-cons b bounds)
sum-within _ _ h = absurd h

-- no vector within the bounds that adds to the same is before w
pub record IsLeast (bounds w : List ℕ) : Type 0 where
  pub within : IsWithin w bounds
  pub none_below : (u : List ℕ) → IsWithin u bounds → sum u ≡ sum w → IsBefore u w → ⊥

-- none that v is before
pub record IsGreatest (bounds v : List ℕ) : Type 0 where
  pub within : IsWithin v bounds
  pub none_above : (u : List ℕ) → IsWithin u bounds → sum u ≡ sum v → IsBefore v u → ⊥

-- of those that v is before, w is the least
pub record IsNearest (bounds v w : List ℕ) : Type 0 where
  pub within : IsWithin w bounds
  pub same_sum : sum w ≡ sum v
  pub above : IsBefore v w
  pub none_between : (u : List ℕ) → IsWithin u bounds → sum u ≡ sum v → IsBefore v u → IsBefore u w → ⊥

-- the vector of no entries is the least, and the greatest
pub IsLeast-nil : IsLeast [] []
IsLeast-nil = record {
  within = tt;
  none_below = λ u h e before. elim u as (λ u. IsWithin u [] → IsBefore u [] → ⊥) [ [] ↦ λ _ b. cc b | x ∷ u ↦ λ k _. absurd k ] h before;
}

-- an entry in front of the least vector is 0, or those after it have no room for more
pub none_below-cons : (b x : ℕ) (bounds w u : List ℕ) → IsLeast bounds w → (0 < x → sum w ≡ sum bounds) → IsWithin u (b ∷ bounds) → sum u ≡ sum (x ∷ w) → IsBefore u (x ∷ w) → ⊥
none_below-cons b x bounds w [] least full h e before = absurd h
none_below-cons b x bounds w (y ∷ u) least full h e before = grind (arith, sum-within, sum-cons)

pub IsGreatest-cons : (b x : ℕ) (bounds v : List ℕ) → IsGreatest bounds v → x ≤ b → (0 < sum v → b ≤ x) → IsGreatest (b ∷ bounds) (x ∷ v)
IsGreatest-cons b x bounds v greatest low top = grind (arith, sum-cons)

IsNearest-cons : (b x : ℕ) (bounds v w : List ℕ) → x ≤ b → IsNearest bounds v w → IsNearest (b ∷ bounds) (x ∷ v) (x ∷ w)
IsNearest-cons b x bounds v w low near = grind (arith, sum-cons, IsBefore-cases)

-- the entry at p grows, where those after it are the greatest, and they become the least
pub IsNearest-at : (bounds v w : List ℕ) (p : ℕ) → IsWithin v bounds → p < length v → get_or v p 0 < get_or bounds p 0 → IsGreatest (drop (suc p) bounds) (drop (suc p) v) → IsLeast (drop (suc p) bounds) w → sum (drop (suc p) v) ≡ sum w + 1 → IsNearest bounds v (take p v ++ (get_or v p 0 + 1) ∷ w)
IsNearest-at (b ∷ bounds) (x ∷ v) w zero h within low greatest least one = grind (arith, sum-cons, IsBefore-cases)
IsNearest-at (b ∷ bounds) (x ∷ v) w (suc p) h within low greatest least one =
    IsNearest-cons b x bounds v _ h.0 (IsNearest-at bounds v w p h.1 (omega arith) low greatest least one)
IsNearest-at _ _ w p h within low greatest least one = absurd (omega arith)

-- the entry at p falls, where those after it are the least, and they become the greatest: the vector is the nearest above
-- what comes of it
pub IsNearest-fallen : (bounds v w : List ℕ) (p : ℕ) → IsWithin v bounds → p < length v → 0 < get_or v p 0 → IsLeast (drop (suc p) bounds) (drop (suc p) v) → IsGreatest (drop (suc p) bounds) w → sum w ≡ sum (drop (suc p) v) + 1 → IsNearest bounds (take p v ++ (get_or v p 0 - 1) ∷ w) v
IsNearest-fallen [] [] w p h within some least greatest one = absurd (omega arith)
IsNearest-fallen (b ∷ bounds) (x ∷ v) w zero h within some least greatest one = grind (arith, sum-cons, IsBefore-cases)
IsNearest-fallen (b ∷ bounds) (x ∷ v) w (suc p) h within some least greatest one =
    IsNearest-cons b x bounds _ v h.0 (IsNearest-fallen bounds v w p h.1 (omega arith) some least greatest one)
IsNearest-fallen _ _ w p h within some least greatest one = absurd h

-- and that is within the bounds
pub IsWithin-fallen : (bounds v w : List ℕ) (p : ℕ) → IsWithin v bounds → p < length v → IsWithin w (drop (suc p) bounds) → IsWithin (take p v ++ (get_or v p 0 - 1) ∷ w) bounds
IsWithin-fallen [] [] w p h within after = absurd (omega arith)
IsWithin-fallen (b ∷ bounds) (x ∷ v) w zero h within after = (omega (arith, h.0), after)
IsWithin-fallen (b ∷ bounds) (x ∷ v) w (suc p) h within after = (h.0, IsWithin-fallen bounds v w p h.1 (omega arith) after)
IsWithin-fallen _ _ w p h within after = absurd h

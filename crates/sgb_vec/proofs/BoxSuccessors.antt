-- The step from a vector of a box to the next one: an entry grows by 1, and zeros stand after it.
use borrow.Rule.Slice.PartMut.{put_mid}
use Rattle.sgb_vec.proofs.Common.{◌≡◌, ℕ, suc, zero, ◌+◌, ◌-◌, ◌<◌, ◌≤◌, List, [], ◌∷◌, length, get_or, set, replicate, refl, arith, rules, places}
use Rattle.sgb_vec.specs.Boxes.{box, product_of}
use Rattle.sgb_vec.specs.Order.{IsNext, IsLast}
use Rattle.sgb_vec.specs.Lexicographic.{IsBelow}
use Rattle.sgb_vec.proofs.BoxPlaces.{StandsAt, place_of, StandsAt-from_slice_get, length-box}
use Rattle.sgb_vec.proofs.BoxOrder.{IsNext-from_places}

-- the entries after place p are as great as the sizes let them be
abbrev pub TopAfter : List ℕ → List ℕ → ℕ → Type 0
TopAfter sizes v p = (k : ℕ) → p ≤ k → k < length v → get_or v k 0 + 1 ≡ get_or sizes k 0

-- w is v with the entry at p greater by 1, and zeros after it
pub record GrownAt (v w : List ℕ) (p : ℕ) : Type 0 where
  pub same_length : length w ≡ length v
  pub before : (k : ℕ) → k < p → get_or w k 0 ≡ get_or v k 0
  pub at : get_or w p 0 ≡ get_or v p 0 + 1
  pub after : (k : ℕ) → p < k → k < length v → get_or w k 0 ≡ 0

-- a vector whose entries are all at their top is at the last place
pub place_of-top : (sizes v : List ℕ) → IsBelow v sizes → TopAfter sizes v 0 → place_of sizes v + 1 ≡ product_of sizes
place_of-top [] [] b t = refl
place_of-top (s ∷ sizes) (x ∷ v) b t =
    let here : x + 1 ≡ s = t 0 (omega arith) (omega arith) in
    search (rules, place_of-top sizes v b.1 (λ k _ h. t (suc k) (omega arith) (omega arith)))
place_of-top _ _ b t = absurd b

-- zeros stand at place 0, where some vector is below the sizes
StandsAt-zero : (sizes v w : List ℕ) → IsBelow v sizes → length w ≡ length v → ((k : ℕ) → k < length v → get_or w k 0 ≡ 0) → StandsAt sizes w 0
StandsAt-zero [] [] [] b e z = record { each_below = tt; place = refl }
StandsAt-zero [] (x ∷ v) w b e z = absurd b
StandsAt-zero (s ∷ sizes) [] w b e z = absurd b
StandsAt-zero (s ∷ sizes) (x ∷ v) (y ∷ w) b e z =
    let here : y ≡ 0 = z 0 (omega arith) in
    grind (arith, StandsAt-zero sizes v w b.1 (omega arith) (λ k h. z (suc k) (omega arith)))
StandsAt-zero _ _ _ b e z = absurd (omega arith)

-- with the entries after p at their top, the vector grown at p stands at the next place
pub StandsAt-grown : (sizes v w : List ℕ) (p : ℕ) → IsBelow v sizes → p < length v → get_or v p 0 + 1 < get_or sizes p 0 → TopAfter sizes v (p + 1) → GrownAt v w p → StandsAt sizes w (place_of sizes v + 1)
StandsAt-grown (s ∷ sizes) (x ∷ v) [] p b h l t g = absurd (omega (arith, g.same_length))
StandsAt-grown (s ∷ sizes) (x ∷ v) (y ∷ w) zero b h l t g =
    let zeros = StandsAt-zero sizes v w b.1 (omega (arith, g.same_length)) (λ k m. g.after (suc k) (omega arith) (omega arith)) in
    let top = place_of-top sizes v b.1 (λ k _ m. t (suc k) (omega arith) (omega arith)) in
    search rules
StandsAt-grown (s ∷ sizes) (x ∷ v) (y ∷ w) (suc p) b h l t g =
    let here : y ≡ x = g.before 0 (omega arith) in
    grind (arith, StandsAt-grown sizes v w p b.1 (omega arith) l (λ k m n. t (suc k) (omega arith) (omega arith)) (record { same_length = omega (arith, g.same_length); before = λ k m. g.before (suc k) (omega arith); at = g.at; after = λ k m n. g.after (suc k) (omega arith) (omega arith) }))
StandsAt-grown _ _ w p b h l t g = absurd (omega arith)

-- what a write of the grown entry and then of zeros after it leaves
pub GrownAt-put_mid : (v zs : List ℕ) (p : ℕ) → p < length v → zs ≡ replicate (length v - (p + 1)) 0 → GrownAt v (put_mid (p + 1) (length (set v p (get_or v p 0 + 1)) - (p + 1)) (set v p (get_or v p 0 + 1)) zs) p
GrownAt-put_mid v zs p h e = search (rules, places)

-- the vector grown at the last place where it can is the next of the box
pub IsNext-grown : (sizes v w : List ℕ) (p : ℕ) → IsBelow v sizes → p < length v → get_or v p 0 + 1 < get_or sizes p 0 → TopAfter sizes v (p + 1) → GrownAt v w p → IsNext (box sizes) v w
IsNext-grown sizes v w p b h l t g =
    let there = StandsAt-grown sizes v w p b h l t g in
    IsNext-from_places sizes v w there.each_below there.place

-- a vector that can grow nowhere is the last of the box
pub IsLast-top : (sizes v : List ℕ) → IsBelow v sizes → TopAfter sizes v 0 → IsLast (box sizes) v
IsLast-top sizes v b t = grind (arith, place_of-top, StandsAt-from_slice_get, length-box)

-- The step from a vector of a box to the one before it: an entry falls by 1, and those after it are at their top.
use borrow.Rule.Slice.PartMut.{put_mid}
use Rattle.sgb_vec.proofs.Common.{◌≡◌, ℕ, suc, ◌+◌, ◌-◌, ◌<◌, List, [], ◌∷◌, length, get_or, set, drop, map, refl, arith, rules, All, refill, places, get_or-map, get_or-drop, length-map, length-drop, take_at, All-nil, All-cons}
use Rattle.sgb_vec.specs.Boxes.{box, product_of}
use Rattle.sgb_vec.specs.Order.{HasNoneBefore, IsFinal, IsPrevious}
use Rattle.sgb_vec.specs.Lexicographic.{IsBelow}
use Rattle.sgb_vec.proofs.Products.{factors-pos}
use Rattle.sgb_vec.proofs.BoxPlaces.{StandsAt-from_slice_get, IsBelow-at, IsBelow-length, place_of, slice_get-place_of, length-box}
use Rattle.sgb_vec.proofs.BoxSuccessors.{TopAfter, StandsAt-grown, place_of-top}

-- as many entries as sizes, each below its size, place by place
IsBelow-from_at : (sizes v : List ℕ) → length v ≡ length sizes → ((k : ℕ) → k < length v → get_or v k 0 < get_or sizes k 0) → IsBelow v sizes
IsBelow-from_at [] [] e h = tt
IsBelow-from_at (s ∷ sizes) (x ∷ v) e h =
    (h 0 (omega arith), IsBelow-from_at sizes v (omega arith) (λ k m. h (suc k) (omega arith)))
IsBelow-from_at _ _ e h = absurd (omega arith)

-- where a vector is below the sizes, each size is above 0
pub sizes_some-below : (sizes v : List ℕ) → IsBelow v sizes → All (λ s. 0 < s) sizes
sizes_some-below [] v b = All-nil (λ s. 0 < s)
sizes_some-below (s ∷ sizes) [] b = absurd b
sizes_some-below (s ∷ sizes) (x ∷ v) b = All-cons (λ s. 0 < s) s sizes (omega (arith, b.0)) (sizes_some-below sizes v b.1)

-- and so it is where the product is above 0
pub sizes_some-product : (sizes : List ℕ) → 0 < product_of sizes → All (λ s. 0 < s) sizes
sizes_some-product [] h = All-nil (λ s. 0 < s)
sizes_some-product (s ∷ sizes) h = grind (arith, sizes_some-product sizes (factors-pos s (product_of sizes) h).1)

-- w is v with the entry at p less by 1, and those after it at their top
pub record FallenAt (sizes v w : List ℕ) (p : ℕ) : Type 0 where
  pub same_length : length w ≡ length v
  pub before : (k : ℕ) → k < p → get_or w k 0 ≡ get_or v k 0
  pub at : get_or w p 0 + 1 ≡ get_or v p 0
  pub after : (k : ℕ) → p < k → k < length v → get_or w k 0 + 1 ≡ get_or sizes k 0

-- what has fallen is below the sizes too
IsBelow-fallen : (sizes v w : List ℕ) (p : ℕ) → IsBelow v sizes → FallenAt sizes v w p → IsBelow w sizes
IsBelow-fallen sizes v w p b f = grind (arith, IsBelow-from_at, IsBelow-length, IsBelow-at)

-- with zeros after place p, the vector fallen at p is the one before in the box
pub IsPrevious-fallen : (sizes v w : List ℕ) (p : ℕ) → IsBelow v sizes → p < length v → ((k : ℕ) → p < k → k < length v → get_or v k 0 ≡ 0) → FallenAt sizes v w p → IsPrevious (box sizes) v w
IsPrevious-fallen sizes v w p b h zeros f i at = grind (arith, IsBelow-fallen, IsBelow-at, StandsAt-grown, StandsAt-from_slice_get, slice_get-place_of)

-- the tops of the sizes after place p, as a list of their own
tops-at : (sizes zs : List ℕ) (p k : ℕ) → All (λ s. 0 < s) sizes → zs ≡ map (λ s. s - 1) (drop (p + 1) sizes) → p < k → k < length sizes → get_or zs (k - (p + 1)) 0 + 1 ≡ get_or sizes k 0
tops-at sizes zs p k some e low high =
    let j = k - (p + 1) in
    let there : get_or (drop (p + 1) sizes) j 0 ≡ get_or sizes k 0 = grind (arith, get_or-drop) in
    grind (arith, length-drop, get_or-map)

-- what a write of the fallen entry and then of the tops after it leaves
pub FallenAt-put_mid : (sizes v zs : List ℕ) (p : ℕ) → IsBelow v sizes → p < length v → 0 < get_or v p 0 → zs ≡ map (λ s. s - 1) (drop (p + 1) sizes) → FallenAt sizes v (put_mid (p + 1) (length (set v p (get_or v p 0 - 1)) - (p + 1)) (set v p (get_or v p 0 - 1)) zs) p
FallenAt-put_mid sizes v zs p b h pos e = search (rules, IsBelow-length, length-map, places, tops-at, sizes_some-below)

-- zeros stand at place 0
place_of-zeros : (sizes v : List ℕ) → ((k : ℕ) → k < length v → get_or v k 0 ≡ 0) → place_of sizes v ≡ 0
place_of-zeros (s ∷ sizes) (x ∷ v) zeros =
    let here : x ≡ 0 = zeros 0 (omega arith) in
    rw here (omega (arith, place_of-zeros sizes v (λ k h. zeros (suc k) (omega arith))))
place_of-zeros _ _ zeros = refl

-- and have none before them
pub HasNoneBefore-zeros : (sizes v : List ℕ) → ((k : ℕ) → k < length v → get_or v k 0 ≡ 0) → HasNoneBefore (box sizes) v
HasNoneBefore-zeros sizes v zeros i at =
    let here = StandsAt-from_slice_get sizes v i at in
    omega (arith, here.place, place_of-zeros sizes v zeros)

-- as many entries as there were, written over them
pub refill-long : (old new : List ℕ) → length new ≡ length old → refill (length old) old new ≡ new
refill-long old new e = take_at new (drop (length new) old) (length old) e

-- the tops of a box that is not empty are at its end
pub IsFinal-tops : (sizes : List ℕ) → 0 < product_of sizes → IsFinal (box sizes) (map (λ s. s - 1) sizes)
IsFinal-tops sizes h =
    let tops = map (λ s. s - 1) sizes in
    let some = sizes_some-product sizes h in
    let long : length tops ≡ length sizes = length-map sizes (λ s. s - 1) in
    let top : TopAfter sizes tops 0 = λ k _ m. omega (arith, get_or-map (λ s. s - 1) sizes k 0 0 (omega arith), some k 0 (omega arith)) in
    let below = IsBelow-from_at sizes tops long (λ k m. omega (arith, top k (omega arith) m)) in
    grind (arith, place_of-top, length-box, slice_get-place_of)

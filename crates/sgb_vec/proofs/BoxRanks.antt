-- The place of a vector of a box, computed entry by entry.
use Rattle.sgb_vec.proofs.Common.{◌≡◌, ℕ, suc, ◌+◌, ◌*◌, ◌<◌, ◌≤◌, List, ◌∷◌, length, get_or, drop, ap, ◌∙◌, arith, slice_get, Some, at_drop_more, drop_all}
use Rattle.sgb_vec.specs.Boxes.{box, product_of}
use Rattle.sgb_vec.proofs.Products.{factors-pos}
use Rattle.sgb_vec.specs.Lexicographic.{IsBelow}
use Rattle.sgb_vec.proofs.BoxPlaces.{IsBelow-length, place_of, place_of-below, slice_get-place_of}

-- the first k entries make `rank` of the place
pub record IsRankSoFar (sizes v : List ℕ) (k rank : ℕ) : Type 0 where
  pub whole : rank * product_of (drop k sizes) + place_of (drop k sizes) (drop k v) ≡ place_of sizes v

-- one entry more
pub rank-more : (sizes v : List ℕ) (k rank : ℕ) → IsRankSoFar sizes v k rank → k < length sizes → k < length v → IsRankSoFar sizes v (k + 1) (rank * get_or sizes k 0 + get_or v k 0)
rank-more sizes v k rank so h i =
    let n = product_of (drop (k + 1) sizes) in
    let product : product_of (drop k sizes) ≡ get_or sizes k 0 * n = at_drop_more product_of sizes k 0 h in
    let place : place_of (drop k sizes) (drop k v) ≡ get_or v k 0 * n + place_of (drop (k + 1) sizes) (drop (k + 1) v) =
    at_drop_more (λ s. place_of s (drop k v)) sizes k 0 h ∙ at_drop_more (place_of (get_or sizes k 0 ∷ drop (k + 1) sizes)) v k 0 i in
    record { whole = omega (arith, so.whole, product, place, ap (λ m. rank * m) product) }

-- with sizes that are not 0 their product is not 0
product-drop_pos : (k : ℕ) (sizes : List ℕ) → 0 < product_of sizes → 0 < product_of (drop k sizes)
product-drop_pos (suc k) (s ∷ sizes) h = product-drop_pos k sizes (factors-pos s (product_of sizes) h).1
product-drop_pos _ _ h = h

-- what the entries make so far is below the number of vectors
pub rank-below : (sizes v : List ℕ) (k rank : ℕ) → IsRankSoFar sizes v k rank → IsBelow v sizes → rank < product_of sizes
rank-below sizes v k rank so b = grind (arith, place_of-below, product-drop_pos)

-- all entries make the place
pub rank-all : (sizes v : List ℕ) (k rank : ℕ) → IsRankSoFar sizes v k rank → IsBelow v sizes → length v ≤ k → slice_get (box sizes) rank ≡ Some v
rank-all sizes v k rank so b h = grind (arith, drop_all, IsBelow-length, slice_get-place_of)

-- the next step stays below the number of vectors
pub rank-next_below : (sizes v : List ℕ) (k rank : ℕ) → IsRankSoFar sizes v k rank → IsBelow v sizes → k < length v → rank * get_or sizes k 0 + get_or v k 0 < product_of sizes
rank-next_below sizes v k rank so b h =
    rank-below sizes v (k + 1) _ (rank-more sizes v k rank so (omega (arith, IsBelow-length sizes v b)) h) b

-- The order of the vectors of a box: the first, the last and the next.
use Rattle.std.proofs.Common.{◌≡◌, ℕ, ◌+◌, ◌<◌, List, [], ◌∷◌, length, replicate, refl, subst, arith, Some, slice_get}
use Rattle.sgb_vec.specs.Boxes.{box, product_of}
use Rattle.sgb_vec.specs.Order.{IsFirst, IsNext}
use Rattle.sgb_vec.proofs.Products.{factors-pos}
use Rattle.sgb_vec.specs.Lexicographic.{IsBelow}
use Rattle.sgb_vec.proofs.BoxPlaces.{StandsAt, StandsAt-from_slice_get, place_of, slice_get-place_of}

-- the vector at the next place is the next
pub IsNext-from_places : (sizes v w : List ℕ) → IsBelow w sizes → place_of sizes w ≡ place_of sizes v + 1 → IsNext (box sizes) v w
IsNext-from_places sizes v w b e i at =
    let there = StandsAt-from_slice_get sizes v i at in
    grind (arith, slice_get-place_of)

-- zeros are below the sizes of a box that is not empty, and stand at place 0
StandsAt-zeros : (sizes : List ℕ) → 0 < product_of sizes → StandsAt sizes (replicate (length sizes) 0) 0
StandsAt-zeros [] h = record { each_below = tt; place = refl }
StandsAt-zeros (s ∷ sizes) h = grind (arith, StandsAt-zeros sizes (factors-pos s (product_of sizes) h).1)

-- the first vector of a box that is not empty is the one of zeros
pub IsFirst-zeros : (sizes : List ℕ) → 0 < product_of sizes → IsFirst (box sizes) (replicate (length sizes) 0)
IsFirst-zeros sizes h =
    let zeros = StandsAt-zeros sizes h in
    subst (λ m. slice_get (box sizes) m ≡ Some (replicate (length sizes) 0)) zeros.place (slice_get-place_of sizes _ zeros.each_below)

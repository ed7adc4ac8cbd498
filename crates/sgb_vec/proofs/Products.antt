-- The product of the sizes of a box.
use Rattle.sgb_vec.proofs.Common.{◌≡◌, ℕ, ◌*◌, ◌<◌, true, false, List, [], ◌∷◌, eqb, inl, inr, arith, rules, list_any, or_cases, or_parts, eqb-true, mul-le}
use Rattle.sgb_vec.specs.Boxes.{product_of}

-- a size of 0 makes the product 0, however great the others are
pub product_of-zero : (sizes : List ℕ) → list_any (λ s. eqb s 0) sizes ≡ true → product_of sizes ≡ 0
product_of-zero [] h = cc
product_of-zero (s ∷ sizes) h =
    elim (or_cases (eqb s 0) (list_any (λ t. eqb t 0) sizes) h) [
      | inl e ↦ rw (eqb-true s 0 e) (omega arith)
      | inr e ↦ rw (product_of-zero sizes e) (omega arith)
    ]

-- with no size of 0 the product is above 0
pub product_of-pos : (sizes : List ℕ) → list_any (λ s. eqb s 0) sizes ≡ false → 0 < product_of sizes
product_of-pos [] h = omega arith
product_of-pos (s ∷ sizes) h = search (rules, mul-le, product_of-pos sizes (or_parts (eqb s 0) (list_any (λ t. eqb t 0) sizes) h).1)

-- where the product is above 0, each factor is
pub factors-pos : (m n : ℕ) → 0 < m * n → (0 < m) × (0 < n)
factors-pos m n h = grind (arith)

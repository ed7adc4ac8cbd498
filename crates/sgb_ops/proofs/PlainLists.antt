-- Plain lists: places one after another, and a list that grows part by part.
use Rattle.sgb_vec.proofs.Common.{◌≡◌, ℕ, ◌+◌, ◌-◌, ◌<◌, ◌≤◌, List, [], ◌∷◌, ◌++◌, map, sym, ap, ◌∙◌, append_assoc, append-nil, arith, range_with_len, map-range_with_len_more}

-- the places from i on, of n
abbrev pub places_from : ℕ → ℕ → List ℕ
places_from n i = range_with_len i (n - i)

pub places-next : (n i : ℕ) → i < n → places_from n i ≡ i ∷ places_from n (i + 1)
places-next n i below = grind (arith)

pub places-none : (n i : ℕ) → n ≤ i → places_from n i ≡ []
places-none n i past = grind (arith)

pub places-all : (n : ℕ) → places_from n 0 ≡ range_with_len 0 n
places-all n = grind (arith)

-- with the parts that are left it is all: one part more
pub part_more : {X : Type 0} (now new part rest left all : List X) → left ≡ part ++ rest → now ++ left ≡ all → new ≡ now ++ part → new ++ rest ≡ all
part_more now new part rest left all is h grown = ap (λ xs. xs ++ rest) grown ∙ (append_assoc now part rest ∙ (ap (λ xs. now ++ xs) (sym is) ∙ h))

-- no part is left
pub parts_all : {X : Type 0} (now left all : List X) → left ≡ [] → now ++ left ≡ all → now ≡ all
parts_all now left all none h = sym (append-nil now) ∙ (ap (λ xs. now ++ xs) (sym none) ∙ h)

-- one number more
pub numbers_more : {X : Type 0} (f : ℕ → X) (a k j : ℕ) (before now new : List X) (x : X) → a + k ≡ j → now ≡ before ++ map f (range_with_len a k) → new ≡ now ++ x ∷ [] → x ≡ f j
    → new ≡ before ++ map f (range_with_len a (k + 1))
numbers_more f a k j before now new x place is grown same = grind (arith, append_assoc, map-range_with_len_more)

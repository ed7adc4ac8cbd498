-- Lemmas on places of lists, and on tests that each element passes.
use Rattle.sgb_vec.proofs.Common.{◌≡◌, ◌≢◌, ◌+◌, ◌<◌, ◌≤◌, ℕ, zero, suc, Bool, true, ◌&&◌, List, [], ◌∷◌, ◌++◌, length, get_or, set, map, drop, append_assoc, append-nil, add-one, Some, refl, ap, sym, ◌∙◌, arith, slice_get, list_all, flat_map, range_with_len, and_parts, and_from, list_all-map, drop_all, slice_get-map, slice_get_read}
use Rattle.std.proofs.Math.Seq.{drop-cons}
use Rattle.sgb_graph.specs.Growth.{at_place}

-- what stands in a prefix of a list
pub slice_get-prefix : {X : Type 0} (xs ys : List X) (k : ℕ) → k < length xs → slice_get (xs ++ ys) k ≡ slice_get xs k
slice_get-prefix [] ys k below = absurd (omega arith)
slice_get-prefix (a ∷ xs) ys zero below = refl
slice_get-prefix (a ∷ xs) ys (suc k) below = slice_get-prefix xs ys k (omega arith)

-- what stands after a list
pub slice_get-after : {X : Type 0} (xs ys : List X) (j : ℕ) → slice_get (xs ++ ys) (length xs + j) ≡ slice_get ys j
slice_get-after [] ys j = let place : 0 + j ≡ j = omega arith in ap (slice_get ys) place
slice_get-after (a ∷ xs) ys j = grind (arith, slice_get-after xs ys j)

-- the element that was changed
pub slice_get-at_place_same : {X : Type 0} (f : X → X) (k : ℕ) (xs : List X) (x : X) → slice_get xs k ≡ Some x → slice_get (at_place f k xs) k ≡ Some (f x)
slice_get-at_place_same f k [] x is = absurd cc
slice_get-at_place_same f zero (a ∷ xs) x is = let same : a ≡ x = cc in ap (λ y. Some (f y)) same
slice_get-at_place_same f (suc k) (a ∷ xs) x is = slice_get-at_place_same f k xs x is

-- the other elements stay
pub slice_get-at_place_other : {X : Type 0} (f : X → X) (k j : ℕ) (xs : List X) → j ≢ k → slice_get (at_place f k xs) j ≡ slice_get xs j
slice_get-at_place_other f k j [] other = refl
slice_get-at_place_other f zero zero (a ∷ xs) other = absurd (other refl)
slice_get-at_place_other f zero (suc j) (a ∷ xs) other = refl
slice_get-at_place_other f (suc k) zero (a ∷ xs) other = refl
slice_get-at_place_other f (suc k) (suc j) (a ∷ xs) other = slice_get-at_place_other f k j xs (λ e. other (ap suc e))

-- a write at a place, of what is made of the element there
pub at_place-is_set : {X : Type 0} (f : X → X) (k : ℕ) (xs : List X) (x : X) → k < length xs → x ≡ get_or xs k x → set xs k (f x) ≡ at_place f k xs
at_place-is_set f k [] x below here = absurd (omega arith)
at_place-is_set f zero (a ∷ xs) x below here = ap (λ y. f y ∷ xs) here
at_place-is_set f (suc k) (a ∷ xs) x below here = ap (λ ys. a ∷ ys) (at_place-is_set f k xs x (omega arith) here)

-- so does their number
pub length-at_place : {X : Type 0} (f : X → X) (k : ℕ) (xs : List X) → length (at_place f k xs) ≡ length xs
length-at_place f k [] = refl
length-at_place f zero (a ∷ xs) = refl
length-at_place f (suc k) (a ∷ xs) = ap suc (length-at_place f k xs)

-- and what the change keeps
pub map-at_place : {X Y : Type 0} (h : X → Y) (f : X → X) (k : ℕ) (xs : List X) → ((x : X) → h (f x) ≡ h x) → map h (at_place f k xs) ≡ map h xs
map-at_place h f k [] kept = refl
map-at_place h f zero (a ∷ xs) kept = ap (λ y. y ∷ map h xs) (kept a)
map-at_place h f (suc k) (a ∷ xs) kept = ap (λ ys. h a ∷ ys) (map-at_place h f k xs kept)

-- what is made of each element, where one is changed
pub map-at_place_made : {X Y : Type 0} (h : X → Y) (f : X → X) (g : Y → Y) (k : ℕ) (xs : List X) → ((x : X) → h (f x) ≡ g (h x)) → map h (at_place f k xs) ≡ at_place g k (map h xs)
map-at_place_made h f g k [] made = refl
map-at_place_made h f g zero (a ∷ xs) made = ap (λ y. y ∷ map h xs) (made a)
map-at_place_made h f g (suc k) (a ∷ xs) made = ap (λ ys. h a ∷ ys) (map-at_place_made h f g k xs made)

-- of a list that is made of another
pub map-map : {X Y Z : Type 0} (h : Y → Z) (f : X → Y) (xs : List X) → map h (map f xs) ≡ map (λ x. h (f x)) xs
map-map h f [] = refl
map-map h f (a ∷ xs) = ap (λ ys. h (f a) ∷ ys) (map-map h f xs)

-- the element at a place passes the test that all pass
pub list_all-get : {X : Type 0} (p : X → Bool) (xs : List X) (k : ℕ) (x : X) → list_all p xs ≡ true → slice_get xs k ≡ Some x → p x ≡ true
list_all-get p [] k x all is = absurd cc
list_all-get p (a ∷ xs) zero x all is = let same : a ≡ x = cc in ap p (sym same) ∙ (and_parts (p a) (list_all p xs) all).0
list_all-get p (a ∷ xs) (suc k) x all is = list_all-get p xs k x (and_parts (p a) (list_all p xs) all).1 is

-- a test that follows from one that all pass
pub list_all-weaker : {X : Type 0} (p q : X → Bool) (xs : List X) → ((x : X) → p x ≡ true → q x ≡ true) → list_all p xs ≡ true → list_all q xs ≡ true
list_all-weaker p q [] follows all = refl
list_all-weaker p q (a ∷ xs) follows all = grind (arith, and_parts, and_from, list_all-weaker p q xs follows (and_parts (p a) (list_all p xs) all).1)

-- two tests at once
pub list_all-both : {X : Type 0} (p q : X → Bool) (xs : List X) → list_all p xs ≡ true → list_all q xs ≡ true → list_all (λ x. p x && q x) xs ≡ true
list_all-both p q [] one other = refl
list_all-both p q (a ∷ xs) one other = grind (arith, and_parts, and_from, list_all-both p q xs (and_parts (p a) (list_all p xs) one).1 (and_parts (q a) (list_all q xs) other).1)

-- a test that each element passes after a change at one place
pub list_all-at_place : {X : Type 0} (p : X → Bool) (f : X → X) (k : ℕ) (xs : List X) → ((x : X) → p x ≡ true → p (f x) ≡ true) → list_all p xs ≡ true → list_all p (at_place f k xs) ≡ true
list_all-at_place p f k [] passes all = refl
list_all-at_place p f zero (a ∷ xs) passes all = grind (arith, and_parts, and_from)
list_all-at_place p f (suc k) (a ∷ xs) passes all = grind (arith, and_parts, and_from, list_all-at_place p f k xs passes (and_parts (p a) (list_all p xs) all).1)

-- a test that each made element passes
pub list_all-made : {X Y : Type 0} (p : Y → Bool) (f : X → Y) (xs : List X) → ((x : X) → p (f x) ≡ true) → list_all p (map f xs) ≡ true
list_all-made p f [] passes = refl
list_all-made p f (a ∷ xs) passes = and_from (p (f a)) (list_all p (map f xs)) (passes a) (list_all-made p f xs passes)

-- a test that each element passes after a change of all
pub list_all-mapped : {X Y : Type 0} (p : X → Bool) (q : Y → Bool) (f : X → Y) (xs : List X) → ((x : X) → p x ≡ true → q (f x) ≡ true) → list_all p xs ≡ true → list_all q (map f xs) ≡ true
list_all-mapped p q f xs passes all = list_all-map q f xs ∙ list_all-weaker p (λ x. q (f x)) xs passes all

-- what agrees on each element
pub flat_map-agree : {X Y : Type 0} (p : X → Bool) (f g : X → List Y) (xs : List X) → ((x : X) → p x ≡ true → f x ≡ g x) → list_all p xs ≡ true → flat_map f xs ≡ flat_map g xs
flat_map-agree p f g [] agree all = refl
flat_map-agree p f g (a ∷ xs) agree all = grind (arith, and_parts, flat_map-agree p f g xs agree (and_parts (p a) (list_all p xs) all).1)

-- a test passes at each number from a on, n of them
pub list_all-range : (p : ℕ → Bool) (a n : ℕ) → ((k : ℕ) → k < a + n → p k ≡ true) → list_all p (range_with_len a n) ≡ true
list_all-range p a zero passes = refl
list_all-range p a (suc n) passes =
    and_from (p a) (list_all p (range_with_len (a + 1) n)) (passes a (omega arith)) (list_all-range p (a + 1) n (λ k below. passes k (omega arith)))

-- mapped one after another: with those that are left, they are all
pub mapped_more :
    {X Y : Type 0} (f : X → Y) (xs ys : List X) (i : ℕ) (d : X) (p : Y) (done more all : List Y) → ys ≡ xs → i < length ys → p ≡ f (get_or ys i d) →
    more ≡ done ++ p ∷ [] → done ++ map f (drop i xs) ≡ all → more ++ map f (drop (i + 1) xs) ≡ all
mapped_more f xs ys i d p done more all same inside put one so_far =
    let below : i < length xs = rw same at inside in
    rw (one, put, same, append_assoc, add-one) (ap (λ zs. done ++ map f zs) (sym (drop-cons xs i d below)) ∙ so_far)

-- and at the end
pub mapped_all : {X Y : Type 0} (f : X → Y) (xs ys : List X) (i : ℕ) (done all : List Y) → ys ≡ xs → length ys ≤ i → done ++ map f (drop i xs) ≡ all → done ≡ all
mapped_all f xs ys i done all same over so_far =
    let none : drop i xs ≡ [] = drop_all i xs (rw same at over) in
    sym (append-nil done) ∙ (ap (λ zs. done ++ map f zs) (sym none) ∙ so_far)

-- what stands in a mapped list
pub slice_get-mapped : {X Y : Type 0} (f : X → Y) (xs : List X) (k : ℕ) (x : X) → k < length xs → x ≡ get_or xs k x → slice_get (map f xs) k ≡ Some (f x)
slice_get-mapped f xs k x inside is = grind (arith, slice_get-map, slice_get_read)

-- Where a vector stands among the vectors of a box, and which vectors those are.
use Rattle.sgb_vec.proofs.Common.{◌≡◌, ℕ, Bool, ◌+◌, ◌*◌, ◌/◌, ◌%◌, ◌<◌, ◌↔◌, true, nat_lt, List, [], ◌∷◌, length, get_or, take, map, refl, sym, ap, subst, ◌∙◌, zero-add, arith, length-append, AllZip, Contains, flat_map, range_with_len, slice_get, list_all, zip, Some, length-map, length-take-le, get_or-map, length_all_zip, AllZip-get_or, ltb-true, lt-ltb, slice_get_within, slice_get_read, get_or_from_slice_get, length-range_with_len, get_or-range_with_len, mul-add-lt, div_below, mod_below}
use Rattle.std.proofs.lemmas.List.Concat.{get_or-flat_map}
use Rattle.sgb_vec.specs.Boxes.{box, product_of}
use Rattle.sgb_vec.specs.Lexicographic.{IsBelow}
use Rattle.sgb_vec.proofs.Products.{factors-pos}

-- the place of a vector among the vectors of a box, in lexicographic order
abbrev pub place_of : List ℕ → List ℕ → ℕ
place_of (s ∷ sizes) (x ∷ v) = x * product_of sizes + place_of sizes v
place_of _ _ = 0

-- the entry at a place is below the size there
pub IsBelow-at : (sizes v : List ℕ) (k : ℕ) → IsBelow v sizes → k < length v → get_or v k 0 < get_or sizes k 0
IsBelow-at sizes v k b h = AllZip-get_or (λ x s. x < s) v sizes k 0 0 b h

-- there are as many entries as sizes
pub IsBelow-length : (sizes v : List ℕ) → IsBelow v sizes → length v ≡ length sizes
IsBelow-length sizes v b = length_all_zip (λ x s. x < s) v sizes b

-- a test of each pair, where there are as many in both lists
pub test_each_pair : (t : ℕ → ℕ → Bool) (R : ℕ → ℕ → Type 0) → ((x s : ℕ) → (t x s ≡ true) ↔ R x s) → (sizes v : List ℕ) → length v ≡ length sizes → (list_all (λ p. t p.0 p.1) (zip v sizes) ≡ true) ↔ AllZip R v sizes
test_each_pair t R decides [] [] e = (λ _. tt, λ _. refl)
test_each_pair t R decides (s ∷ sizes) (x ∷ v) e = grind (arith, test_each_pair t R decides sizes v (omega arith))
test_each_pair t R decides _ _ e = absurd (omega arith)

-- that of entries below sizes
pub IsBelow-test : (sizes v : List ℕ) → length v ≡ length sizes → (list_all (λ p. nat_lt p.0 p.1) (zip v sizes) ≡ true) ↔ IsBelow v sizes
IsBelow-test sizes v e = test_each_pair nat_lt (λ x s. x < s) (λ x s. (ltb-true x s, lt-ltb x s)) sizes v e

-- rows of k elements each
length-rows : {X : Type 0} (f : ℕ → List X) (k : ℕ) → ((x : ℕ) → length (f x) ≡ k) → (xs : List ℕ) → length (flat_map f xs) ≡ length xs * k
length-rows f k e [] = omega arith
length-rows f k e (x ∷ xs) = omega (arith, length-append (f x) (flat_map f xs), e x, length-rows f k e xs)

-- element j of row x stands after the x rows before it
get_or-rows : {X : Type 0} (f : ℕ → List X) (k : ℕ) → ((x : ℕ) → length (f x) ≡ k) → (n x j : ℕ) (d : X) → x < n → j < k → get_or (flat_map f (range_with_len 0 n)) (x * k + j) d ≡ get_or (f x) j d
get_or-rows f k e n x j d h l =
    let xs = range_with_len 0 n in
    let x_at : get_or xs x 0 ≡ x = get_or-range_with_len 0 n x 0 h ∙ zero-add x in
    let before : length (flat_map f (take x xs)) ≡ x * k =
    length-rows f k e (take x xs) ∙ ap (λ m. m * k) (length-take-le x xs (omega (arith, length-range_with_len 0 n))) in
    grind (arith, get_or-flat_map, length-range_with_len)

-- a box has as many vectors as the product of its sizes
pub length-box : (sizes : List ℕ) → length (box sizes) ≡ product_of sizes
unfolding box
length-box [] = refl
length-box (s ∷ sizes) =
    let row : (x : ℕ) → length (map (λ v. x ∷ v) (box sizes)) ≡ product_of sizes = λ x. length-map (box sizes) (λ v. x ∷ v) ∙ length-box sizes in
    length-rows (λ x. map (λ v. x ∷ v) (box sizes)) (product_of sizes) row (range_with_len 0 s)
    ∙ ap (λ n. n * product_of sizes) (length-range_with_len 0 s)

-- the vector at place x * n + j has x in front of the j-th vector of the other sizes, of which there are n
pub get_or-box : (s : ℕ) (sizes : List ℕ) (x j : ℕ) (d : List ℕ) → x < s → j < product_of sizes → get_or (box (s ∷ sizes)) (x * product_of sizes + j) d ≡ x ∷ get_or (box sizes) j d
unfolding box
get_or-box s sizes x j d h k = grind (arith, length-map, length-box, get_or-rows, get_or-map)

-- a vector of the box stands within it
pub place_of-below : (sizes v : List ℕ) → IsBelow v sizes → place_of sizes v < product_of sizes
place_of-below [] [] b = omega arith
place_of-below (s ∷ sizes) (x ∷ v) b =
    omega (arith, mul-add-lt x (product_of sizes) (place_of sizes v) s b.0 (place_of-below sizes v b.1))
place_of-below _ _ b = absurd b

-- at its place stands the vector
pub get_or-place_of : (sizes v d : List ℕ) → IsBelow v sizes → get_or (box sizes) (place_of sizes v) d ≡ v
unfolding box
get_or-place_of [] [] d b = refl
get_or-place_of (s ∷ sizes) (x ∷ v) d b = grind (arith, get_or-box, place_of-below, get_or-place_of sizes v d b.1)
get_or-place_of _ _ d b = absurd b

-- a vector that stands at place i: its entries are below the sizes, and its place is i
pub record StandsAt (sizes v : List ℕ) (i : ℕ) : Type 0 where
  pub each_below : IsBelow v sizes
  pub place : place_of sizes v ≡ i

-- a vector with x in front of one that stands at place j of the other sizes
StandsAt-cons : (s : ℕ) (sizes v : List ℕ) (x j i : ℕ) → x < s → StandsAt sizes v j → x * product_of sizes + j ≡ i → StandsAt (s ∷ sizes) (x ∷ v) i
StandsAt-cons s sizes v x j i h at e = record { each_below = (h, at.each_below); place = omega arith }

-- each place within the box has a vector that stands there
pub StandsAt-box : (sizes : List ℕ) (i : ℕ) (d : List ℕ) → i < product_of sizes → StandsAt sizes (get_or (box sizes) i d) i
unfolding box
StandsAt-box [] i d h = let first : i ≡ 0 = omega arith in rw first (record { each_below = tt; place = refl })
StandsAt-box (s ∷ sizes) i d h =
    let n = product_of sizes in
    let n_pos : 0 < n = (factors-pos s n (omega arith)).1 in
    let x_below : i / n < s = div_below i n s n_pos h in
    let j_below : i % n < n = mod_below i n n_pos in
    let after = StandsAt-cons s sizes _ (i / n) (i % n) _ x_below (StandsAt-box sizes (i % n) d j_below) refl in
    grind (arith, get_or-box)

-- the vectors of a box are those with as many entries as there are sizes, each below its size
pub IsBelow-from_Contains : (sizes v : List ℕ) → Contains (box sizes) v → IsBelow v sizes
IsBelow-from_Contains sizes v (i, within, at) = grind (arith, StandsAt-box, length-box)

pub Contains-from_IsBelow : (sizes v : List ℕ) → IsBelow v sizes → Contains (box sizes) v
Contains-from_IsBelow sizes v b =
    (place_of sizes v, omega (arith, length-box sizes, place_of-below sizes v b), get_or-place_of sizes v v b)

pub Contains-box : (sizes v : List ℕ) → Contains (box sizes) v ↔ IsBelow v sizes
Contains-box sizes v = (IsBelow-from_Contains sizes v, Contains-from_IsBelow sizes v)

-- a vector of the box stands at its place and at no other
pub StandsAt-from_slice_get : (sizes v : List ℕ) (i : ℕ) → slice_get (box sizes) i ≡ Some v → StandsAt sizes v i
StandsAt-from_slice_get sizes v i at =
    let within = slice_get_within (box sizes) i v at in
    let there = StandsAt-box sizes i v (omega (arith, length-box sizes)) in
    subst (λ w. StandsAt sizes w i) (get_or_from_slice_get (box sizes) i v v at) there

-- and it does stand there
pub slice_get-place_of : (sizes v : List ℕ) → IsBelow v sizes → slice_get (box sizes) (place_of sizes v) ≡ Some v
slice_get-place_of sizes v b =
    slice_get_read (box sizes) (product_of sizes) (place_of sizes v) v (sym (length-box sizes)) (place_of-below sizes v b) (sym (get_or-place_of sizes v v b))

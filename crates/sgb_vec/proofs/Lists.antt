-- Plain lists: pairs of elements in order, what stands in a list that is made of others, what passes a test, numbers one
-- after another, and walks.
use Rattle.sgb_vec.proofs.Common.{rules, ◌≡◌, ℕ, zero, suc, ◌+◌, ◌-◌, ◌<◌, ◌≤◌, ◌==◌, ◌⊎◌, Bool, true, false, cond, List, [], ◌∷◌, ◌++◌, length, map, reverse, get_or, Option, Some, refl, sym, ap, subst, ◌∙◌, inl, inr, arith, All, AllPairs, Contains, filter, flat_map, range_with_len, slice_get, cases_order, cond_both, eq-eqb, eqb-true, get_or-reverse, length-reverse, map-append, reverse-append, All-append, All-get_or, All-head, All-map, All-nil, All-tail, Contains-append_left, Contains-append_right, filter-append, get_or-range_with_len, length-range_with_len, AllPairs-cons}
use Rattle.std.specs.Iterator.{YieldsFirst}

-- no elements are in any order
pub AllPairs-none : {X : Type 0} (R : X → X → Type 0) → AllPairs R []
AllPairs-none R i j d less within = absurd (omega arith)

-- of elements in order, the first with all others, and the others
pub AllPairs-first : {X : Type 0} (R : X → X → Type 0) (x : X) (xs : List X) → AllPairs R (x ∷ xs) → All (R x) xs
AllPairs-first R x xs h k d within = h 0 (suc k) d (omega arith) (omega arith)

pub AllPairs-others : {X : Type 0} (R : X → X → Type 0) (x : X) (xs : List X) → AllPairs R (x ∷ xs) → AllPairs R xs
AllPairs-others R x xs h i j d less within = h (suc i) (suc j) d (omega arith) (omega arith)

-- elements in order, and then others
pub AllPairs-append : {X : Type 0} (R : X → X → Type 0) (xs ys : List X) → AllPairs R xs → AllPairs R ys → All (λ x. All (R x) ys) xs → AllPairs R (xs ++ ys)
AllPairs-append R [] ys hx hy between = hy
AllPairs-append R (x ∷ xs) ys hx hy between =
    AllPairs-cons R x (xs ++ ys)
    (All-append (R x) xs ys (AllPairs-first R x xs hx) (All-head (λ u. All (R u) ys) x xs between))
    (AllPairs-append R xs ys (AllPairs-others R x xs hx) hy (All-tail (λ u. All (R u) ys) x xs between))

-- what is made of elements in order
pub AllPairs-map : {X Y : Type 0} (R : Y → Y → Type 0) (f : X → Y) (xs : List X) → AllPairs (λ p q. R (f p) (f q)) xs → AllPairs R (map f xs)
AllPairs-map R f [] h = AllPairs-none R
AllPairs-map R f (x ∷ xs) h =
    AllPairs-cons R (f x) (map f xs)
    (All-map (R (f x)) f xs (AllPairs-first (λ p q. R (f p) (f q)) x xs h))
    (AllPairs-map R f xs (AllPairs-others (λ p q. R (f p) (f q)) x xs h))

-- elements in the other order
pub AllPairs-reverse : {X : Type 0} (R : X → X → Type 0) (xs : List X) → AllPairs (λ p q. R q p) xs → AllPairs R (reverse xs)
AllPairs-reverse R xs h i j d less within = grind (arith, length-reverse, get_or-reverse)

-- another order that follows where all have a property
pub AllPairs-follows : {X : Type 0} (P : X → Type 0) (R S : X → X → Type 0) (xs : List X) → ((p q : X) → P p → P q → R p q → S p q) → All P xs → AllPairs R xs → AllPairs S xs
AllPairs-follows P R S xs follows all h i j d less within =
    follows (get_or xs i d) (get_or xs j d) (All-get_or P xs i d (omega arith) all) (All-get_or P xs j d within all) (h i j d less within)

-- the numbers of a range rise
pub range-rises : (start count : ℕ) → AllPairs (λ a b. a < b) (range_with_len start count)
range-rises start count i j d less within = grind (arith, length-range_with_len, get_or-range_with_len)

-- and stand within it
pub range-within : (start count : ℕ) → All (λ k. (start ≤ k) × (k < start + count)) (range_with_len start count)
range-within start count k d within = search (rules, length-range_with_len, get_or-range_with_len)

-- what stands in a list: its first element, and what stands in the others
pub Contains-first : {X : Type 0} (x : X) (xs : List X) → Contains (x ∷ xs) x
Contains-first x xs = (0, omega arith, refl)

pub Contains-other : {X : Type 0} (x y : X) (xs : List X) → Contains xs y → Contains (x ∷ xs) y
Contains-other x y xs (k, within, at) = (suc k, omega arith, at)

pub Contains-cases : {X : Type 0} (x y : X) (xs : List X) → Contains (x ∷ xs) y → (x ≡ y) ⊎ Contains xs y
Contains-cases x y xs h = grind (arith)

pub Contains-none : {X : Type 0} (x : X) → Contains [] x → ⊥
Contains-none x (k, within, at) = absurd (omega arith)

-- of an image, a filter, a list of lists, a range, the other order
pub Contains-image : {X Y : Type 0} (f : X → Y) (xs : List X) (x : X) → Contains xs x → Contains (map f xs) (f x)
Contains-image f [] x h = absurd (Contains-none x h)
Contains-image f (z ∷ xs) x h =
    elim (Contains-cases z x xs h) [
      | inl same ↦ subst (λ y. Contains (f z ∷ map f xs) (f y)) same (Contains-first (f z) (map f xs))
      | inr later ↦ Contains-other (f z) (f x) (map f xs) (Contains-image f xs x later)
    ]

pub Contains-passing : {X : Type 0} (p : X → Bool) (xs : List X) (x : X) → p x ≡ true → Contains xs x → Contains (filter p xs) x
Contains-passing p [] x e h = absurd (Contains-none x h)
Contains-passing p (z ∷ xs) x e h =
    elim (Contains-cases z x xs h) [
      | inl same ↦ grind arith
      | inr later ↦
          let rest = Contains-passing p xs x e later in
          cond_both (p z) (z ∷ filter p xs) (filter p xs) (λ l. Contains l x) (λ _. Contains-other z x (filter p xs) rest) (λ _. rest)
    ]

pub Contains-flat_map : {X Y : Type 0} (f : X → List Y) (xs : List X) (x : X) (y : Y) → Contains xs x → Contains (f x) y → Contains (flat_map f xs) y
Contains-flat_map f [] x y h inside = absurd (Contains-none x h)
Contains-flat_map f (z ∷ xs) x y h inside =
    elim (Contains-cases z x xs h) [
      | inl same ↦ Contains-append_left (f z) (flat_map f xs) y (subst (λ w. Contains (f w) y) (sym same) inside)
      | inr later ↦ Contains-append_right (f z) (flat_map f xs) y (Contains-flat_map f xs x y later inside)
    ]

pub Contains-range : (start count k : ℕ) → start ≤ k → k < start + count → Contains (range_with_len start count) k
Contains-range start zero k from below = absurd (omega arith)
Contains-range start (suc count) k from below =
    elim (cases_order start k) [
      | inl same ↦ subst (Contains (start ∷ range_with_len (start + 1) count)) same (Contains-first start (range_with_len (start + 1) count))
      | inr (inl less) ↦ Contains-other start k (range_with_len (start + 1) count) (Contains-range (start + 1) count k (omega arith) (omega arith))
      | inr (inr more) ↦ absurd (omega arith)
    ]

pub Contains-reverse : {X : Type 0} (xs : List X) (x : X) → Contains xs x → Contains (reverse xs) x
Contains-reverse xs x (k, within, at) =
    let there : get_or (reverse xs) (length xs - 1 - k) x ≡ get_or xs (length xs - 1 - (length xs - 1 - k)) x = get_or-reverse xs (length xs - 1 - k) x (omega arith) in
    grind (arith, length-reverse)

-- elements that all lists of a list have
pub All-flat_map : {X Y : Type 0} (P : Y → Type 0) (f : X → List Y) (xs : List X) → All (λ x. All P (f x)) xs → All P (flat_map f xs)
All-flat_map P f [] h = All-nil P
All-flat_map P f (x ∷ xs) h =
    All-append P (f x) (flat_map f xs) (All-head (λ z. All P (f z)) x xs h) (All-flat_map P f xs (All-tail (λ z. All P (f z)) x xs h))

-- all elements of the other order
pub All-reverse : {X : Type 0} (P : X → Type 0) (xs : List X) → All P xs → All P (reverse xs)
All-reverse P xs h k d within = search (rules, length-reverse, get_or-reverse)

-- what is made of the elements that pass, of a list and then another
pub made-append : {X Y : Type 0} (t : X → Bool) (f : X → Y) (xs ys : List X) → map f (filter t (xs ++ ys)) ≡ map f (filter t xs) ++ map f (filter t ys)
made-append t f xs ys = ap (map f) (filter-append t xs ys) ∙ map-append f (filter t xs) (filter t ys)

-- the other order of a list with a first element
pub reverse-first : {X : Type 0} (x : X) (xs : List X) → reverse (x ∷ xs) ≡ reverse xs ++ x ∷ []
reverse-first x xs = reverse-append (x ∷ []) xs

-- where no element passes, nor gives anything, nothing is left
pub filter-none : {X : Type 0} (t : X → Bool) (xs : List X) → All (λ x. t x ≡ false) xs → filter t xs ≡ []
filter-none t [] h = refl
filter-none t (x ∷ xs) h = grind (arith, All-head, filter-none t xs (All-tail (λ y. t y ≡ false) x xs h))

pub flat_map-none : {X Y : Type 0} (f : X → List Y) (xs : List X) → All (λ x. f x ≡ []) xs → flat_map f xs ≡ []
flat_map-none f [] h = refl
flat_map-none f (x ∷ xs) h =
    ap (λ l. l ++ flat_map f xs) (All-head (λ y. f y ≡ []) x xs h) ∙ flat_map-none f xs (All-tail (λ y. f y ≡ []) x xs h)

-- tests that hold together are the same, and one that cannot hold is false
pub same_tests : (a b : Bool) → (a ≡ true → b ≡ true) → (b ≡ true → a ≡ true) → a ≡ b
same_tests a b on back = grind (arith)

pub never_true : (b : Bool) → (b ≡ true → ⊥) → b ≡ false
never_true b h = grind (arith)

pub eqb-turned : (a b : ℕ) → (a == b) ≡ (b == a)
eqb-turned a b = same_tests (a == b) (b == a) (λ e. eq-eqb b a (sym (eqb-true a b e))) (λ e. eq-eqb a b (sym (eqb-true b a e)))

-- where all elements pass, all stay; a first one that passes is one more
pub filter-all : {X : Type 0} (t : X → Bool) (xs : List X) → All (λ x. t x ≡ true) xs → filter t xs ≡ xs
filter-all t [] h = refl
filter-all t (x ∷ xs) h = grind (arith, All-head, filter-all t xs (All-tail (λ y. t y ≡ true) x xs h))

pub passing_first : {X : Type 0} (b : Bool) (x : X) (xs : List X) → length (cond b (x ∷ xs) xs) ≡ cond b 1 0 + length xs
passing_first b x xs = grind (arith)

-- an element of the first of two lists
pub slice_get-left : {X : Type 0} (xs ys : List X) (k : ℕ) (x : X) → slice_get xs k ≡ Some x → slice_get (xs ++ ys) k ≡ Some x
slice_get-left [] ys k x is = absurd cc
slice_get-left (a ∷ xs) ys zero x is = is
slice_get-left (a ∷ xs) ys (suc k) x is = slice_get-left xs ys k x is

-- numbers, and those after them
pub range-joined : (start m n : ℕ) → range_with_len start (m + n) ≡ range_with_len start m ++ range_with_len (start + m) n
range-joined start zero n = grind (arith)
range-joined start (suc m) n =
    let more : suc m + n ≡ suc (m + n) = omega arith in
    grind (arith, range-joined (start + 1) m n)

-- one number more
pub range-more : (start n : ℕ) → range_with_len start (n + 1) ≡ range_with_len start n ++ (start + n) ∷ []
range-more start n = range-joined start n 1

-- what a walk gives stands before what it leaves
pub steps_to : {X : Type 0} (s rest : List X) (r : Option X) (x : X) → r ≡ Some x → YieldsFirst (λ l. l) s r rest → s ≡ x ∷ rest
steps_to s rest r x is h = subst (λ o. YieldsFirst (λ l. l) s o rest) is h

-- the numbers from k to below n, k first
pub range-first : (k n : ℕ) → k < n → range_with_len k (n - k) ≡ k ∷ range_with_len (k + 1) (n - (k + 1))
range-first k n h = grind (arith)

-- none from n on
pub range-none : (k n : ℕ) → n ≤ k → range_with_len k (n - k) ≡ []
range-none k n h = grind (arith)

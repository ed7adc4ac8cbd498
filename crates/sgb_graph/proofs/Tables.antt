-- The rows of a table, given by its columns.
use Rattle.sgb_vec.proofs.Common.{◌≡◌, ◌<◌, ℕ, zero, suc, List, [], ◌∷◌, ◌++◌, length, get_or, map, replicate, set, Some, refl, ap, sym, ◌∙◌, add-one, arith, slice_get, length-replicate, replicate_next}
use Rattle.sgb_graph.specs.Growth.{at_place}
use Rattle.sgb_graph.specs.inner.KeptVertices.{AreColumns, combined, in_front, rows, with_row}

-- two lists made one: how many elements, each by its place, one more
pub length-combined : {X Y Z : Type 0} (f : X → Y → Z) (xs : List X) (ys : List Y) → length xs ≡ length ys → length (combined f xs ys) ≡ length ys
length-combined f [] [] e = refl
length-combined f (x ∷ xs) (y ∷ ys) e = ap suc (length-combined f xs ys (omega (arith, e)))
length-combined f _ _ e = absurd (omega (arith, e))

pub combined_at : {X Y Z : Type 0} (f : X → Y → Z) (xs : List X) (ys : List Y) (k : ℕ) (x : X) (y : Y) → slice_get xs k ≡ Some x → slice_get ys k ≡ Some y → slice_get (combined f xs ys) k ≡ Some (f x y)
combined_at f (a ∷ xs) (b ∷ ys) zero x y one other = grind (arith)
combined_at f (a ∷ xs) (b ∷ ys) (suc k) x y one other = combined_at f xs ys k x y one other
combined_at f _ _ k x y one other = absurd cc

pub combined-push : {X Y Z : Type 0} (f : X → Y → Z) (xs : List X) (ys : List Y) (x : X) (y : Y) → length xs ≡ length ys → combined f (xs ++ x ∷ []) (ys ++ y ∷ []) ≡ combined f xs ys ++ f x y ∷ []
combined-push f [] [] x y e = refl
combined-push f (a ∷ xs) (b ∷ ys) x y e = ap (λ zs. f a b ∷ zs) (combined-push f xs ys x y (omega (arith, e)))
combined-push f _ _ x y e = absurd (omega (arith, e))

-- all elements of one of them changed
pub combined-map_first : {X Y Z : Type 0} (f : X → Y → Z) (g : X → X) (h : Z → Z) (xs : List X) (ys : List Y) → ((x : X) (y : Y) → f (g x) y ≡ h (f x y)) → combined f (map g xs) ys ≡ map h (combined f xs ys)
combined-map_first f g h (x ∷ xs) (y ∷ ys) same = ap (λ z. z ∷ combined f (map g xs) ys) (same x y) ∙ ap (λ zs. h (f x y) ∷ zs) (combined-map_first f g h xs ys same)
combined-map_first f g h _ _ same = refl

pub combined-map_second : {X Y Z : Type 0} (f : X → Y → Z) (g : Y → Y) (h : Z → Z) (xs : List X) (ys : List Y) → ((x : X) (y : Y) → f x (g y) ≡ h (f x y)) → combined f xs (map g ys) ≡ map h (combined f xs ys)
combined-map_second f g h (x ∷ xs) (y ∷ ys) same = ap (λ z. z ∷ combined f xs (map g ys)) (same x y) ∙ ap (λ zs. h (f x y) ∷ zs) (combined-map_second f g h xs ys same)
combined-map_second f g h _ _ same = refl

-- one element of one of them
pub combined-at_first : {X Y Z : Type 0} (f : X → Y → Z) (g : X → X) (h : Z → Z) (v : ℕ) (xs : List X) (ys : List Y) → ((x : X) (y : Y) → f (g x) y ≡ h (f x y)) → combined f (at_place g v xs) ys ≡ at_place h v (combined f xs ys)
combined-at_first f g h zero (x ∷ xs) (y ∷ ys) same = ap (λ z. z ∷ combined f xs ys) (same x y)
combined-at_first f g h (suc v) (x ∷ xs) (y ∷ ys) same = ap (λ zs. f x y ∷ zs) (combined-at_first f g h v xs ys same)
combined-at_first f g h _ _ _ same = refl

pub combined-at_second : {X Y Z : Type 0} (f : X → Y → Z) (g : Y → Y) (h : Z → Z) (v : ℕ) (xs : List X) (ys : List Y) → ((x : X) (y : Y) → f x (g y) ≡ h (f x y)) → combined f xs (at_place g v ys) ≡ at_place h v (combined f xs ys)
combined-at_second f g h zero (x ∷ xs) (y ∷ ys) same = ap (λ z. z ∷ combined f xs ys) (same x y)
combined-at_second f g h (suc v) (x ∷ xs) (y ∷ ys) same = ap (λ zs. f x y ∷ zs) (combined-at_second f g h v xs ys same)
combined-at_second f g h v _ _ same = refl

-- the number of rows
pub length-rows : {X : Type 0} (n : ℕ) (columns : List (List X)) → AreColumns n columns → length (rows n columns) ≡ n
length-rows n [] whole = length-replicate n []
length-rows n (column ∷ columns) whole = grind (arith, length-combined, length-rows n columns whole.1)

-- the row at place k has these elements
abbrev pub IsRow : {X : Type 0} → ℕ → List (List X) → List X → Type 0
IsRow k [] [] = Unit {0}
IsRow k (column ∷ columns) (x ∷ row) = (slice_get column k ≡ Some x) × IsRow k columns row
IsRow k _ _ = ⊥

-- a list of one element, n times
slice_get-replicate : {X : Type 0} (n k : ℕ) (x : X) → k < n → slice_get (replicate n x) k ≡ Some x
slice_get-replicate zero k x below = absurd (omega arith)
slice_get-replicate (suc n) zero x below = refl
slice_get-replicate (suc n) (suc k) x below = slice_get-replicate n k x (omega arith)

-- a row has the elements of the columns
pub row_at : {X : Type 0} (n k : ℕ) (columns : List (List X)) (row : List X) → k < n → IsRow k columns row → slice_get (rows n columns) k ≡ Some row
row_at n k [] [] below is = slice_get-replicate n k [] below
row_at n k (column ∷ columns) (x ∷ row) below is = combined_at (λ y ys. y ∷ ys) column (rows n columns) k x row is.0 (row_at n k columns row below is.1)
row_at n k _ _ below is = absurd is

-- one row more
pub rows-push : {X : Type 0} (n : ℕ) (columns : List (List X)) (row : List X) → AreColumns n columns → length columns ≡ length row → rows (suc n) (with_row columns row) ≡ rows n columns ++ row ∷ []
rows-push n [] [] whole e = ap (λ m. replicate m []) (sym (add-one n)) ∙ replicate_next n []
rows-push n (column ∷ columns) (x ∷ row) whole e =
    rw (rows-push n columns row whole.1 (omega (arith, e))) (combined-push (λ y ys. y ∷ ys) column (rows n columns) x row (whole.0 ∙ sym (length-rows n columns whole.1)))
rows-push n _ _ whole e = absurd (omega (arith, e))

-- rows of nothing
empty-map : {X : Type 0} (f : X → X) (j n : ℕ) → replicate {A = List X} n [] ≡ map (at_place f j) (replicate n [])
empty-map f j zero = refl
empty-map f j (suc n) = ap (λ rs. [] ∷ rs) (empty-map f j n)

-- a change of a column is one of each row
pub rows-map : {X : Type 0} (f : X → X) (n j : ℕ) (columns : List (List X)) → rows n (at_place (map f) j columns) ≡ map (at_place f j) (rows n columns)
rows-map f n j [] = empty-map f j n
rows-map f n zero (column ∷ columns) = combined-map_first (λ x row. x ∷ row) f (at_place f zero) column (rows n columns) (λ x row. refl)
rows-map f n (suc j) (column ∷ columns) =
    ap (in_front column) (rows-map f n j columns) ∙ combined-map_second (λ x row. x ∷ row) (at_place f j) (at_place f (suc j)) column (rows n columns) (λ x row. refl)

-- rows of nothing
empty-at : {X : Type 0} (f : X → X) (v j n : ℕ) → replicate {A = List X} n [] ≡ at_place (at_place f j) v (replicate n [])
empty-at f v j zero = refl
empty-at f zero j (suc n) = refl
empty-at f (suc v) j (suc n) = ap (λ rs. [] ∷ rs) (empty-at f v j n)

-- a change at a place of a column is one of that row
pub rows-at : {X : Type 0} (f : X → X) (n v j : ℕ) (columns : List (List X)) → rows n (at_place (at_place f v) j columns) ≡ at_place (at_place f j) v (rows n columns)
rows-at f n v j [] = empty-at f v j n
rows-at f n v zero (column ∷ columns) = combined-at_first (λ x row. x ∷ row) f (at_place f zero) v column (rows n columns) (λ x row. refl)
rows-at f n v (suc j) (column ∷ columns) =
    ap (in_front column) (rows-at f n v j columns) ∙ combined-at_second (λ x row. x ∷ row) (at_place f j) (at_place f (suc j)) v column (rows n columns) (λ x row. refl)

-- a first column of one element
in_front-replicate : {X : Type 0} (n : ℕ) (x : X) (row : List X) → in_front (replicate n x) (replicate n row) ≡ replicate n (x ∷ row)
in_front-replicate zero x row = refl
in_front-replicate (suc n) x row = ap (λ rs. (x ∷ row) ∷ rs) (in_front-replicate n x row)

-- rows of one element
pub rows-replicate : {X : Type 0} (n k : ℕ) (x : X) → rows n (replicate k (replicate n x)) ≡ replicate n (replicate k x)
rows-replicate n zero x = refl
rows-replicate n (suc k) x = ap (in_front (replicate n x)) (rows-replicate n k x) ∙ in_front-replicate n x (replicate k x)

-- a change of a change
pub at_place-at_place : {X : Type 0} (f g : X → X) (k : ℕ) (xs : List X) → at_place f k (at_place g k xs) ≡ at_place (λ x. f (g x)) k xs
at_place-at_place f g k [] = refl
at_place-at_place f g zero (x ∷ xs) = refl
at_place-at_place f g (suc k) (x ∷ xs) = ap (λ ys. x ∷ ys) (at_place-at_place f g k xs)

-- the same change
pub at_place-same : {X : Type 0} (f g : X → X) (k : ℕ) (xs : List X) → ((x : X) → f x ≡ g x) → at_place f k xs ≡ at_place g k xs
at_place-same f g k [] same = refl
at_place-same f g zero (x ∷ xs) same = ap (λ y. y ∷ xs) (same x)
at_place-same f g (suc k) (x ∷ xs) same = ap (λ ys. x ∷ ys) (at_place-same f g k xs same)

-- a change that puts an element is a write
pub at_place-set : {X : Type 0} (y : X) (k : ℕ) (xs : List X) → at_place (λ _. y) k xs ≡ set xs k y
at_place-set y k [] = refl
at_place-set y zero (x ∷ xs) = refl
at_place-set y (suc k) (x ∷ xs) = ap (λ ys. x ∷ ys) (at_place-set y k xs)

-- what holds of each list of six elements written out holds of a list of length 6
pub each_six : {X : Type 0} (P : List X → Type 0) (xs : List X) → length xs ≡ 6 → ((u v w x y z : X) → P (u ∷ v ∷ w ∷ x ∷ y ∷ z ∷ [])) → P xs
each_six P (a ∷ b ∷ c ∷ d ∷ e ∷ f ∷ []) six all = all a b c d e f
each_six P _ six all = absurd (omega (arith, six))

-- a list of six elements is their list
pub six_of : {X : Type 0} (xs : List X) (u v w x y z : X) → length xs ≡ 6 → u ≡ get_or xs 0 u → v ≡ get_or xs 1 v → w ≡ get_or xs 2 w → x ≡ get_or xs 3 x → y ≡ get_or xs 4 y → z ≡ get_or xs 5 z → xs ≡ u ∷ v ∷ w ∷ x ∷ y ∷ z ∷ []
six_of {X} xs u v w x y z six =
    each_six
    (λ (ys : List X). u ≡ get_or ys 0 u → v ≡ get_or ys 1 v → w ≡ get_or ys 2 w → x ≡ get_or ys 3 x → y ≡ get_or ys 4 y → z ≡ get_or ys 5 z → ys ≡ u ∷ v ∷ w ∷ x ∷ y ∷ z ∷ [])
    xs six (λ a b c d e f e0 e1 e2 e3 e4 e5. rw (← e0, ← e1, ← e2, ← e3, ← e4, ← e5) refl)

-- read with a default
pub six_read : {X : Type 0} (xs : List X) (d : X) → length xs ≡ 6 → get_or xs 0 d ∷ get_or xs 1 d ∷ get_or xs 2 d ∷ get_or xs 3 d ∷ get_or xs 4 d ∷ get_or xs 5 d ∷ [] ≡ xs
six_read {X} xs d six =
    each_six
    (λ (ys : List X). get_or ys 0 d ∷ get_or ys 1 d ∷ get_or ys 2 d ∷ get_or ys 3 d ∷ get_or ys 4 d ∷ get_or ys 5 d ∷ [] ≡ ys)
    xs six (λ u v w x y z. refl)

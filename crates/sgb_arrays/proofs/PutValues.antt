-- Values put into a list from a place on.
use Rattle.std.proofs.Common.{◌≡◌, ℕ, ◌+◌, List, [], ◌∷◌, ◌++◌, length, length-append, map, take, set, refl, sym, ap, append_assoc, ◌∙◌, arith}
use Rattle.std.proofs.lemmas.List.{append-nil, length-map, length-set, map-append, take_all, take_more_set}
use Rattle.sgb_arrays.specs.inner.Puts.{put_from}

-- values, and then others
pub put_from-append : {X : Type 0} (at : ℕ) (xs ys old : List X) → put_from at (xs ++ ys) old ≡ put_from (at + length xs) ys (put_from at xs old)
put_from-append at [] ys old = grind (arith)
put_from-append at (x ∷ xs) ys old = grind (arith, set, put_from-append (at + 1) xs ys (set old at x))

-- values up to the end
pub put_from-rest : {X : Type 0} (at : ℕ) (xs old : List X) → at + length xs ≡ length old → put_from at xs old ≡ take at old ++ xs
put_from-rest at [] old size = sym (append-nil (take at old) ∙ take_all at old (omega (arith, size)))
put_from-rest at (x ∷ xs) old size = grind (arith, set, length-set, take_more_set, append_assoc, put_from-rest (at + 1) xs (set old at x) (omega (arith, size, length-set old at x)))

-- all values are others
pub put_from-all : {X : Type 0} (xs old : List X) → length old ≡ length xs → put_from 0 xs old ≡ xs
put_from-all xs old size = put_from-rest 0 xs old (omega (arith, size))

-- the first of what is left is put
pub first_put : (v at next there : ℕ) (left : List ℕ) (rest : ℕ → List ℕ) (now all : List ℕ) → left ≡ at ∷ rest there → next ≡ there → put_from v left now ≡ all → put_from (v + 1) (rest next) (set now v at) ≡ all
first_put v at next there left rest now all is same whole = rw same (ap (λ xs. put_from v xs now) (sym is) ∙ whole)

-- the last one is put, so all are there
pub last_put : (v n at : ℕ) (left now old all : List ℕ) → v ≡ n → left ≡ at ∷ [] → length old ≡ length all → put_from v left now ≡ put_from 0 all old → set now n at ≡ all
last_put v n at left now old all same is size whole = rw (← put_from-all all old size, ← whole, is, same) refl

-- one part less is left to count
pub part_counted : {X : Type 0} (count size all : ℕ) (left part rest : List X) → left ≡ part ++ rest → size ≡ length part → count + length left ≡ all → (count + size) + length rest ≡ all
part_counted count size all left part rest is same whole = omega (arith, same, whole, ap length is, length-append part rest)

-- the first values of what is left are put
pub part_put : {X Y : Type 0} (f : X → Y) (at next : ℕ) (left part rest : List X) (now new all : List Y) → left ≡ part ++ rest
    → next ≡ at + length part → new ≡ put_from at (map f part) now → put_from at (map f left) now ≡ all → put_from next (map f rest) new ≡ all
part_put f at next left part rest now new all is there done whole = grind (arith, length-map, put_from-append, map-append)

-- none is left, so all are put
pub all_put : {X Y : Type 0} (f : X → Y) (at : ℕ) (left : List X) (now old all : List Y) → left ≡ [] → length old ≡ length all
    → put_from at (map f left) now ≡ put_from 0 all old → now ≡ all
all_put f at left now old all none size whole = ap (λ xs. put_from at (map f xs) now) (sym none) ∙ whole ∙ put_from-all all old size

-- the first part of what is left is put, which is known by another name
pub bytes_put : (at next : ℕ) (left part known rest now new all : List ℕ) → left ≡ part ++ rest → part ≡ known → next ≡ at + length known
    → new ≡ put_from at known now → put_from at left now ≡ all → put_from next rest new ≡ all
bytes_put at next left part known rest now new all is same there done whole =
    rw (there, done, ← put_from-append at known rest now, ← same, ← is) whole

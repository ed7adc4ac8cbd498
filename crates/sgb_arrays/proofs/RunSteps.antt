-- Runs, one vertex more, and one run after another.
use Rattle.std.proofs.Common.{◌≡◌, ◌∙◌, ℕ, ◌+◌, List, [], ◌∷◌, ◌++◌, length, map, refl, sym, ap, ap₂, arith}
use Rattle.std.specs.List.{flat_map, range_with_len}
use Rattle.std.proofs.lemmas.Grind.{flat_map-append}
use Rattle.std.proofs.lemmas.List.{flat_map_more, length-append, map-append}
use Rattle.std.proofs.lemmas.List.FromFn.{length-map-range_with_len}
use Rattle.sgb_vec.proofs.Lists.{range-joined, range-more}
use Rattle.sgb_arrays.specs.Lists.{starts_from}
use Rattle.sgb_arrays.specs.Runs.{part_starts, parts_of}

-- a run, one vertex more
pub parts_more : {X : Type 0} (parts : ℕ → List X) (first count : ℕ) → parts_of parts first (count + 1) ≡ parts_of parts first count ++ parts (first + count)
unfolding parts_of
parts_more parts first count =
    ap (flat_map parts) (range-more first count) ∙ sym (flat_map_more parts [] (range_with_len first count) (first + count))

-- two runs one after the other
pub parts_joined : {X : Type 0} (parts : ℕ → List X) (first a b : ℕ) → parts_of parts first (a + b) ≡ parts_of parts first a ++ parts_of parts (first + a) b
unfolding parts_of
parts_joined parts first a b =
    ap (flat_map parts) (range-joined first a b) ∙ flat_map-append parts (range_with_len first a) (range_with_len (first + a) b)

-- starts of parts, one part more: behind them stands where that one ends
starts_after : {X : Type 0} (parts : ℕ → List X) (at end : ℕ) (vs : List ℕ) (v : ℕ) → end ≡ at + length (flat_map parts (vs ++ v ∷ []))
    → starts_from at (map (λ u. length (parts u)) (vs ++ v ∷ [])) ≡ starts_from at (map (λ u. length (parts u)) vs) ++ end ∷ []
starts_after parts at end [] v is = grind (arith, length-append)
starts_after parts at end (u ∷ us) v is =
    ap (λ ks. at ∷ ks) (starts_after parts (at + length (parts u)) end us v (omega (arith, is, length-append (parts u) (flat_map parts (us ++ v ∷ [])))))

pub starts_more : {X : Type 0} (parts : ℕ → List X) (first count : ℕ)
    → part_starts parts first (count + 1) ≡ part_starts parts first count ++ length (parts_of parts first (count + 1)) ∷ []
unfolding part_starts parts_of
starts_more parts first count = rw (range-more first count) (starts_after parts 0 _ (range_with_len first count) (first + count) (omega arith))

-- the same of what was put so far
pub values_more : {X Y : Type 0} (f : X → Y) (parts : ℕ → List X) (first count : ℕ) (now own after : List Y) → now ≡ map f (parts_of parts first count)
    → own ≡ map f (parts (first + count)) → after ≡ now ++ own → after ≡ map f (parts_of parts first (count + 1))
values_more f parts first count now own after so_far is put =
    put ∙ ap₂ (λ xs ys. xs ++ ys) so_far is ∙ sym (map-append f (parts_of parts first count) (parts (first + count))) ∙ ap (map f) (sym (parts_more parts first count))

pub start_more : {X : Type 0} (parts : ℕ → List X) (first count : ℕ) (now after : List ℕ) (size : ℕ) → now ≡ part_starts parts first count
    → size ≡ length (parts_of parts first (count + 1)) → after ≡ now ++ size ∷ [] → after ≡ part_starts parts first (count + 1)
start_more parts first count now after size so_far is put =
    put ∙ ap₂ (λ xs k. xs ++ k ∷ []) so_far is ∙ sym (starts_more parts first count)

-- there is a start more than parts
length-starts_from : (at : ℕ) (sizes : List ℕ) → length (starts_from at sizes) ≡ length sizes + 1
length-starts_from at [] = refl
length-starts_from at (size ∷ sizes) = omega (arith, length-starts_from (at + size) sizes)

pub length-part_starts : {X : Type 0} (parts : ℕ → List X) (first count : ℕ) → length (part_starts parts first count) ≡ count + 1
unfolding part_starts
length-part_starts parts first count =
    omega (arith, length-starts_from 0 (map (λ v. length (parts v)) (range_with_len first count)), length-map-range_with_len (λ v. length (parts v)) first count)

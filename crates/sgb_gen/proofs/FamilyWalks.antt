-- A walk over the vectors of a family, from the first to the last.
use Rattle.std.proofs.Common.{◌≡◌, ℕ, zero, suc, ◌+◌, ◌≤◌, List, [], ◌∷◌, ◌++◌, length, map, take, drop, Some, refl, sym, ap, ◌∙◌, arith}
use Rattle.std.specs.List.{slice_get, flat_map}
use Rattle.std.proofs.lemmas.List.{at_drop_more, drop-drop, length-drop, map-append, take_more}
use Rattle.std.proofs.lemmas.Option.{slice_get_within, get_or_from_slice_get}

-- what stands first after others is at their number
pub first_in_drop : (k : ℕ) (xs : List (List ℕ)) → slice_get (drop k xs) 0 ≡ slice_get xs k
first_in_drop zero xs = refl
first_in_drop (suc k) [] = refl
first_in_drop (suc k) (x ∷ xs) = first_in_drop k xs

-- of the vectors from a place on the first stands at the place
pub at_front : (vectors left : List (List ℕ)) (u : ℕ) (v : List ℕ) → left ≡ drop u vectors → slice_get left 0 ≡ Some v → slice_get vectors u ≡ Some v
at_front vectors left u v is first = sym (first_in_drop u vectors) ∙ ap (λ (vs : List (List ℕ)). slice_get vs 0) (sym is) ∙ first

-- the others are those from the next place on
pub next_left : (vectors left rest : List (List ℕ)) (u : ℕ) → left ≡ drop u vectors → rest ≡ drop 1 left → rest ≡ drop (u + 1) vectors
next_left vectors left rest u is after = after ∙ ap (λ (vs : List (List ℕ)). drop 1 vs) is ∙ drop-drop 1 u vectors

-- and where none are left the place is past all
pub none_left : (vectors left : List (List ℕ)) (u : ℕ) → left ≡ drop u vectors → left ≡ [] → length vectors ≤ u
none_left vectors left u is none = omega (arith, ap length is, ap length none, length-drop u vectors)

-- the vectors from a place on
pub drop_at_vector : {X : Type 0} (vectors : List X) (u : ℕ) (v : X) → slice_get vectors u ≡ Some v → drop u vectors ≡ v ∷ drop (u + 1) vectors
drop_at_vector vectors u v at =
    cc (at_drop_more (λ ws. ws) vectors u v (slice_get_within vectors u v at), get_or_from_slice_get vectors u v v at)

-- the vectors up to a place
pub take_at_vector : {X : Type 0} (vectors : List X) (u : ℕ) (v : X) → slice_get vectors u ≡ Some v → take (u + 1) vectors ≡ take u vectors ++ v ∷ []
take_at_vector vectors u v at =
    cc (take_more vectors u v (slice_get_within vectors u v at), get_or_from_slice_get vectors u v v at)

-- a map of lists joined
pub map-flat_map : {X Y Z : Type 0} (f : Y → Z) (g : X → List Y) (xs : List X) → map f (flat_map g xs) ≡ flat_map (λ x. map f (g x)) xs
map-flat_map f g [] = refl
map-flat_map f g (x ∷ xs) = map-append f (g x) (flat_map g xs) ∙ ap (λ zs. map f (g x) ++ zs) (map-flat_map f g xs)

-- A place, coordinate by coordinate.
use Rattle.std.proofs.Common.{◌≡◌, ℕ, ◌+◌, ◌<◌, ℤ, pos, ◌+ℤ◌, ◌*ℤ◌, List, [], ◌∷◌, ◌++◌, length, get_or, drop, Option, Some, ◌∙◌, append_assoc, arith}
use Rattle.std.specs.Option.{option_map}
use Rattle.std.proofs.lemmas.List.{at_drop_more}
use Rattle.sgb_moves.specs.Moves.{is_bit_set, sides_from_bit, coordinate_on, in_front, place}

-- the coordinates from number k on of a place
abbrev pub coordinates_from : List ℕ → ℤ → List ℕ → List ℤ → ℕ → ℕ → Option (List ℕ)
coordinates_from sizes wrap x t l k = place (sides_from_bit k (drop k sizes) wrap) (drop k x) (drop k t) l

-- coordinate number k of a place
abbrev pub coordinate_at : List ℕ → ℤ → List ℕ → List ℤ → ℕ → ℕ → Option ℕ
coordinate_at sizes wrap x t l k =
    coordinate_on (record { size = get_or sizes k 0; wraps = is_bit_set wrap k }) (pos (get_or x k 0) +ℤ pos l *ℤ get_or t k (pos 0))

-- what stands after the coordinates that are known
abbrev pub after_known : List ℕ → Option (List ℕ) → Option (List ℕ)
after_known known rest = option_map (λ v. known ++ v) rest

-- the coordinates from number k on: that one in front of the others
pub coordinates-step : (sizes : List ℕ) (wrap : ℤ) (x : List ℕ) (t : List ℤ) (l k : ℕ) → k < length sizes → k < length x → k < length t → coordinates_from sizes wrap x t l k ≡ in_front (coordinate_at sizes wrap x t l k) (coordinates_from sizes wrap x t l (k + 1))
coordinates-step sizes wrap x t l k h i j =
    at_drop_more (λ s. place (sides_from_bit k s wrap) (drop k x) (drop k t) l) sizes k 0 h
    ∙ at_drop_more (λ v. place (sides_from_bit k (get_or sizes k 0 ∷ drop (k + 1) sizes) wrap) v (drop k t) l) x k 0 i
    ∙ at_drop_more (λ u. place (sides_from_bit k (get_or sizes k 0 ∷ drop (k + 1) sizes) wrap) (get_or x k 0 ∷ drop (k + 1) x) u l) t k (pos 0) j

-- a known coordinate
pub after_known-push : (known : List ℕ) (c : ℕ) (rest : Option (List ℕ)) → after_known known (in_front (Some c) rest) ≡ after_known (known ++ c ∷ []) rest
after_known-push known c rest = grind (arith, append_assoc)

pub after_known-none : (rest : Option (List ℕ)) → after_known [] rest ≡ rest
after_known-none rest = grind (arith)

-- Displacements by the coordinates that they move: where these lead alone, since all others stay.
use Rattle.std.specs.Prelude.{ℕ, zero, ◌+◌, ℤ, pos, ◌+ℤ◌, ◌*ℤ◌, List, [], ◌∷◌, get_or, set, Option, unwrap_or}
use Rattle.sgb_moves.specs.Moves.{is_bit_set, coordinate_on}

-- the coordinates that a displacement moves whose entries are those from number k on: their numbers, and how far
abbrev pub parts_from : ℕ → List ℤ → List (ℕ × ℤ)
parts_from k [] = []
parts_from k (pos zero ∷ t) = parts_from (k + 1) t
parts_from k (c ∷ t) = (k, c) ∷ parts_from (k + 1) t

-- the coordinates that a displacement moves
abbrev pub parts_of : List ℤ → List (ℕ × ℤ)
parts_of t = parts_from 0 t

-- where a moved coordinate leads at length l from x, if it does
abbrev pub part_at : List ℕ → ℤ → List ℕ → ℕ → ℕ × ℤ → Option ℕ
part_at sizes wrap x l p =
    coordinate_on (record { size = get_or sizes p.0 0; wraps = is_bit_set wrap p.0 }) (pos (get_or x p.0 0) +ℤ pos l *ℤ p.1)

-- the vector `there` with each moved coordinate put where it leads at length l from x
abbrev pub parts_put : List ℕ → ℤ → List ℕ → ℕ → List (ℕ × ℤ) → List ℕ → List ℕ
parts_put sizes wrap x l [] there = there
parts_put sizes wrap x l (p ∷ parts) there = parts_put sizes wrap x l parts (set there p.0 (unwrap_or (part_at sizes wrap x l p) 0))

-- The moves of a piece on a board [GB_BASIC, board].
use Rattle.std.specs.Prelude.{◌≡◌, ℕ, ◌+◌, ◌/◌, ◌%◌, ◌^◌, ◌==◌, ℤ, pos, negsuc, ◌+ℤ◌, ◌*ℤ◌, neg_ℤ, nat_abs, nat_lt, Bool, false, not, List, [], ◌∷◌, map, filter, filter_map, take_while, Option, Some, None, option_map, is_some, Contains, if◌then◌else◌}
use Rattle.std.specs.Int.{int_rem_euclid}
use Rattle.std.specs.List.{flat_map, range_with_len}
use Rattle.sgb_vec.specs.Boxes.{product_of}
use Rattle.sgb_moves.specs.Displacements.{displacements}
use Rattle.sgb_moves.specs.VectorMoves.{Move, same_vector}

-- a side of a board: how many places it has, and whether it wraps around
pub record Side : Type 0 where
  pub size : ℕ
  pub wraps : Bool

-- bit k of a number in two's complement, counted from 0, with the sign carried on
abbrev pub is_bit_set : ℤ → ℕ → Bool
is_bit_set (pos n) k = n / 2 ^ k % 2 == 1
is_bit_set (negsuc n) k = n / 2 ^ k % 2 == 0

-- the sides of these sizes, where bit k is that of the first: a side wraps where its bit of wrap is 1
abbrev pub sides_from_bit : ℕ → List ℕ → ℤ → List Side
sides_from_bit k [] wrap = []
sides_from_bit k (n ∷ sizes) wrap = record { size = n; wraps = is_bit_set wrap k } ∷ sides_from_bit (k + 1) sizes wrap

-- the sides of a board: bit 0 is that of the first coordinate
abbrev pub sides_of : List ℕ → ℤ → List Side
sides_of sizes wrap = sides_from_bit 0 sizes wrap

-- y, where it is from 0 to n - 1
abbrev pub within_size : ℕ → ℤ → Option ℕ
within_size n (pos y) = if nat_lt y n then Some y else None
within_size n (negsuc y) = None

-- coordinate y on a side: modulo its size where the side wraps, and else only where it is within it
abbrev pub coordinate_on : Side → ℤ → Option ℕ
coordinate_on s y = if s.wraps then Some (nat_abs (int_rem_euclid y (pos s.size))) else within_size s.size y

-- x in front of v, where both exist
abbrev pub in_front : Option ℕ → Option (List ℕ) → Option (List ℕ)
in_front (Some x) (Some v) = Some (x ∷ v)
in_front _ _ = None

-- the place at length l from x on by the displacement t, with coordinates xk + l * tk, where it exists
abbrev pub place : List Side → List ℕ → List ℤ → ℕ → Option (List ℕ)
place [] x t l = Some []
place (s ∷ sides) (x ∷ xs) (t ∷ ts) l = in_front (coordinate_on s (pos x +ℤ pos l *ℤ t)) (place sides xs ts l)
place _ _ _ l = None

-- a place exists, and is not x
abbrev pub is_elsewhere : List ℕ → Option (List ℕ) → Bool
is_elsewhere x None = false
is_elsewhere x (Some y) = not (same_vector y x)

-- how many places the sides have together
abbrev pub places_count : List Side → ℕ
places_count sides = product_of (map (λ s. s.size) sides)

-- the lengths of a rider's moves from x by t: all from 1 on below the least at which the place does not exist
-- or is x. As many steps as there are places always lead out of the board or back to x
abbrev pub rider_reach : List Side → List ℕ → List ℤ → List ℕ
rider_reach sides x t = take_while (λ l. is_elsewhere x (place sides x t l)) (range_with_len 1 (places_count sides))

-- the lengths of the moves from x by t: of a leaper (piece is positive) 1, where that place exists; else those of a rider
abbrev pub reach : List Side → ℤ → List ℕ → List ℤ → List ℕ
reach sides (pos p) x t = filter (λ l. is_some (place sides x t l)) (1 ∷ [])
reach sides (negsuc p) x t = rider_reach sides x t

-- the moves from x by t, by their lengths
abbrev pub moves_from : List Side → ℤ → List ℕ → List ℤ → List Move
moves_from sides piece x t =
    filter_map (λ l. option_map (λ y. record { from = x; to = y; len = l }) (place sides x t l)) (reach sides piece x t)

-- the moves on a board whose places are the vectors: for each displacement, for each place in order
unfoldable pub board_moves : List Side → ℤ → List (List ℕ) → ℕ → List Move
board_moves sides piece vectors dimensions =
    flat_map (λ t. flat_map (λ x. moves_from sides piece x t) vectors) (displacements (nat_abs piece) dimensions)

-- the displacement t with each step turned the other way
abbrev pub opposite : List ℤ → List ℤ
opposite t = map neg_ℤ t

-- a move of length l leads from x to y by t
abbrev pub LeadsTo : List Side → ℤ → List ℕ → List ℤ → ℕ → List ℕ → Type 0
LeadsTo sides piece x t l y = Contains (reach sides piece x t) l × (place sides x t l ≡ Some y)

-- Whether moved coordinates stay on the board, and where two vectors differ in no others.
use Rattle.std.specs.Prelude.{◌≡◌, ◌≢◌, ◌<◌, ◌≤◌, ◌+◌, ℕ, ℤ, Bool, true, List, get_or, is_some, length, map}
use Rattle.std.specs.List.{AllByRecursion, list_all}
use Rattle.sgb_moves.specs.MovedCoordinates.{part_at, parts_of}
use Rattle.sgb_moves.specs.Moves.{opposite}

-- all of them lead to coordinates
abbrev pub parts_stay : List ℕ → ℤ → List ℕ → ℕ → List (ℕ × ℤ) → Bool
parts_stay sizes wrap x l parts = list_all (λ p. is_some (part_at sizes wrap x l p)) parts

-- a displacement and its opposite lead to places of the board at length 1
abbrev pub StayAtOne : List ℕ → ℤ → List ℕ → List ℤ → Type 0
StayAtOne sizes wrap x t = (parts_stay sizes wrap x 1 (parts_of t) ≡ true) × (parts_stay sizes wrap x 1 (parts_of (opposite t)) ≡ true)

-- each coordinate has this much room on both sides
abbrev pub IsInside : ℕ → List ℕ → List ℕ → Type 0
IsInside room sizes x = (k : ℕ) → k < length sizes → (room ≤ get_or x k 0) × (get_or x k 0 + room < get_or sizes k 0)

-- the numbers of the coordinates that a displacement moves
abbrev pub moved_of : List ℤ → List ℕ
moved_of t = map (λ p. p.0) (parts_of t)

-- two vectors of one length differ in no other coordinates than these
abbrev pub AgreeBut : List ℕ → List ℕ → List ℕ → Type 0
AgreeBut ks v w = (length v ≡ length w) × ((k : ℕ) → k < length v → AllByRecursion (λ j. k ≢ j) ks → get_or v k 0 ≡ get_or w k 0)

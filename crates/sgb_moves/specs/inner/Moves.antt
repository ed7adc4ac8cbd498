-- Where a piece moves at one length, how far that can be, and whether it leads to later vectors.
use Rattle.std.specs.Prelude.{ℕ, zero, suc, ◌+◌, ℤ, pos, negsuc, Bool, false, not, List, [], ◌∷◌, Option, None, if◌then◌else◌}
use Rattle.sgb_moves.specs.Moves.{Side, is_bit_set, place, is_elsewhere, places_count}

-- where the piece moves from x by t at length l, if it does: a rider stops before its start
abbrev pub destination : List Side → ℤ → List ℕ → List ℤ → ℕ → Option (List ℕ)
destination sides (pos p) x t l = place sides x t l
destination sides (negsuc p) x t l = if is_elsewhere x (place sides x t l) then place sides x t l else None

-- the greatest length that a move may have
abbrev pub longest_move : List Side → ℤ → ℕ
longest_move sides (pos p) = 1
longest_move sides (negsuc p) = places_count sides

-- a displacement whose entries are those of the sides from number k on leads to later vectors: its first entry other than
-- 0 is positive, and its side does not wrap around
abbrev pub leads_onward : ℤ → ℕ → List ℤ → Bool
leads_onward wrap k [] = false
leads_onward wrap k (pos zero ∷ t) = leads_onward wrap (k + 1) t
leads_onward wrap k (pos (suc c) ∷ t) = not (is_bit_set wrap k)
leads_onward wrap k (negsuc c ∷ t) = false

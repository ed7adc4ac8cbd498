-- The list of a board's vertex, of which the arcs by the last displacements are taken.
use Rattle.std.specs.Prelude.{◌≡◌, ◌<◌, ◌++◌, ◌*◌, get_or, length, ℕ, ℤ, pos, nat_abs, true, false, List, [], reverse, map, if◌then◌else◌}
use Rattle.std.specs.List.{All, flat_map}
use Rattle.sgb_vec.specs.Boxes.{box}
use Rattle.sgb_vec.specs.Lexicographic.{IsBelow}
use Rattle.sgb_gen.specs.Boards.{BoardData}
use Rattle.sgb_gen.specs.LocalLists.{LocalArc}
use Rattle.sgb_moves.specs.MovedCoordinates.{parts_of}
use Rattle.sgb_moves.specs.Moves.{moves_from, opposite, place, sides_of}
use Rattle.sgb_gen.specs.inner.LocalBoards.{arcs_onward, move_arc, moves_by}
use Rattle.sgb_moves.specs.inner.Moves.{destination, leads_onward}

-- the arcs of x by these displacements, those by later moves first
abbrev pub arcs_by_all : BoardData → List ℕ → List (List ℤ) → List LocalArc
arcs_by_all b x ts = reverse (arcs_onward b.directed x (flat_map (moves_by (sides_of b.sizes b.wrap) b.piece (box b.sizes)) ts))

-- the arcs of x by the moves from it by this displacement, the shortest first
abbrev pub arcs_from : BoardData → List ℕ → List ℤ → List LocalArc
arcs_from b x t = map move_arc (moves_from (sides_of b.sizes b.wrap) b.piece x t)

-- the same where edges come back, and none where there are arcs alone
abbrev pub arcs_back : BoardData → List ℕ → List ℤ → List LocalArc
arcs_back b x t = if b.directed then [] else arcs_from b x t

-- all of these lead onward
abbrev pub AreOnward : ℤ → List (List ℤ) → Type 0
AreOnward wrap ts = All (λ t. leads_onward wrap 0 t ≡ true) ts

-- from x by this displacement a piece leads to each place there is
abbrev pub NeverHome : BoardData → List ℕ → List ℤ → Type 0
NeverHome b x t = (l : ℕ) → 0 < l → destination (sides_of b.sizes b.wrap) b.piece x t l ≡ place (sides_of b.sizes b.wrap) x t l

-- the arcs of x by this displacement are those ahead, the longest first, and then those back; neither lead home
pub record IsRun (b : BoardData) (x : List ℕ) (t : List ℤ) : Type 0 where
  pub arcs : reverse (arcs_onward b.directed x (moves_by (sides_of b.sizes b.wrap) b.piece (box b.sizes) t)) ≡ reverse (arcs_from b x t) ++ arcs_back b x (opposite t)
  pub ahead : NeverHome b x t
  pub back : NeverHome b x (opposite t)

-- the piece is a leaper
abbrev pub IsLeaper : BoardData → Type 0
IsLeaper b = b.piece ≡ pos (nat_abs b.piece)

-- so many steps by a displacement that moves this coordinate first lead ahead on its side, and around it once at most
abbrev pub GoesAroundOnce : List ℕ → ℕ × ℤ → ℕ → Type 0
GoesAroundOnce sizes p n = (p.1 ≡ pos (nat_abs p.1)) × (0 < nat_abs p.1) × (n * nat_abs p.1 < get_or sizes p.0 0)

-- the arcs by the edges of this displacement are had in order with no sort, from a vector from which so many moves lead
-- back: there are arcs alone, or it leads onward, or these moves go around its first side once at most
abbrev pub IsInOrder : BoardData → List ℤ → ℕ → Type 0
IsInOrder b t n =
    b.directed ≡ false → leads_onward b.wrap 0 t ≡ false → (0 < length (parts_of t)) × GoesAroundOnce b.sizes (get_or (parts_of t) 0 (0, pos 0)) n

-- the same from each vector
abbrev pub NeedsNoSort : BoardData → List ℤ → Type 0
NeedsNoSort b t =
    b.directed ≡ false → leads_onward b.wrap 0 t ≡ false
    → (0 < length (parts_of t)) × ((x : List ℕ) → IsBelow x b.sizes → GoesAroundOnce b.sizes (get_or (parts_of t) 0 (0, pos 0)) (length (arcs_from b x (opposite t))))

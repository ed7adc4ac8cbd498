-- Lists of one vertex of a board, by displacements, evaluated.
use Rattle.std.specs.Prelude.{◌≡◌, ℕ, ℤ, pos, negsuc, true, false, List, [], ◌∷◌, Some, None, refl}
use Rattle.sgb_graph.specs.Events.{list_from}
use Rattle.sgb_gen.specs.inner.LocalBoards.{arcs_of_starts, arcs_onward, edge_arcs, move_arc, moves_by, other_starts, own_starts, starts_of}
use Rattle.sgb_gen.specs.LocalLists.{LocalArc, list_at}
use Rattle.sgb_moves.specs.Moves.{Side, moves_from, opposite}

-- an arc to place y of a board of one dimension
abbrev arc : ℕ → ℕ → LocalArc
arc y l = record { tip = y ∷ []; len = pos l }

-- a circle of three places, on which a rider goes round by 1: from place 1 to 2 and on to 0, and not to 1 again; the
-- other way round to 0 and on to 2
abbrev circle : List Side
circle = record { size = 3; wraps = true } ∷ []

abbrev rider : ℤ
rider = negsuc 0

abbrev one : List ℤ
one = pos 1 ∷ []

abbrev places : List (List ℕ)
places = (0 ∷ []) ∷ (1 ∷ []) ∷ (2 ∷ []) ∷ []

pub its_own_starts : own_starts 1 (moves_from circle rider (1 ∷ []) one) ≡ (1, 1) ∷ (1, 2) ∷ []
its_own_starts = refl

-- what comes to place 1 by a length leaves it by that length the other way round
pub other_starts_of_it : other_starts places 1 (moves_from circle rider (1 ∷ []) (opposite one)) ≡ (0, 1) ∷ (2, 2) ∷ []
other_starts_of_it = refl

pub all_starts : starts_of circle rider places (1 ∷ []) one ≡ (1, 1) ∷ (1, 2) ∷ (0, 1) ∷ (2, 2) ∷ []
all_starts = refl

-- a loop by a leaper starts at its own vertex, and is no other vertex's
pub start_of_a_loop : starts_of (record { size = 1; wraps = true } ∷ []) (pos 1) ((0 ∷ []) ∷ []) (0 ∷ []) one ≡ (0, 1) ∷ []
start_of_a_loop = refl

-- the edges in the order of their starts: those from places 0, 1, 1 and 2
pub arcs_by_starts : arcs_of_starts circle rider 1 (1 ∷ []) one (opposite one) ((0, 1) ∷ (1, 1) ∷ (1, 2) ∷ (2, 2) ∷ []) ≡ arc 0 1 ∷ arc 2 1 ∷ arc 0 2 ∷ arc 2 2 ∷ []
arcs_by_starts = refl

pub arcs_by_moves : arcs_onward false (1 ∷ []) (moves_by circle rider places one) ≡ arc 0 1 ∷ arc 2 1 ∷ arc 0 2 ∷ arc 2 2 ∷ []
arcs_by_moves = refl

-- its list has those of later moves first
pub list_by_moves : list_at false places (moves_by circle rider places one) (1 ∷ []) ≡ arc 2 2 ∷ arc 0 2 ∷ arc 2 1 ∷ arc 0 1 ∷ []
unfolding list_from list_at
list_by_moves = refl

-- directed, the moves that start there alone
pub directed_by_moves : arcs_onward true (1 ∷ []) (moves_by circle rider places one) ≡ arc 2 1 ∷ arc 0 2 ∷ []
directed_by_moves = refl

pub arc_of_a_move : move_arc (record { from = 1 ∷ []; to = 0 ∷ []; len = 2 }) ≡ arc 0 2
arc_of_a_move = refl

-- an edge makes one arc, a loop two, no edge none
pub edge_to_another : edge_arcs (1 ∷ []) 2 (Some (0 ∷ [])) ≡ arc 0 2 ∷ []
edge_to_another = refl

pub edge_to_itself : edge_arcs (1 ∷ []) 3 (Some (1 ∷ [])) ≡ arc 1 3 ∷ arc 1 3 ∷ []
edge_to_itself = refl

pub no_edge : edge_arcs (1 ∷ []) 3 None ≡ []
no_edge = refl

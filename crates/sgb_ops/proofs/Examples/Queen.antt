-- The moves of a queen on a board of 3 by 4: the union of the moves of a rook and of a bishop [QUEEN].
use Rattle.std.specs.Prelude.{◌≡◌, ℕ, pos, ◌+◌, ◌*◌, ◌/◌, ◌%◌, Bool, ◌&&◌, false, List, [], ◌∷◌, ◌++◌, map, filter, flat_map, nat_lt, nat_le, codes, refl}
use Rattle.std.specs.Fmt.{digits}
use Rattle.std.specs.List.{range_with_len}
use Rattle.sgb_vec.specs.Boxes.{box}
use Rattle.sgb_vec.specs.Names.{name_of_vector}
use Rattle.sgb_graph.specs.Graphs.{GraphData, numbers_from}
use Rattle.sgb_graph.specs.Events.{Event, list_from}
use Rattle.sgb_graph.specs.Ids.{double_compound_id}
use Rattle.sgb_graph.proofs.PlainGraphs.{plain_graph}
use Rattle.sgb_taken.specs.Taken.{each_edge_once}
use Rattle.sgb_ops.specs.Merged.{merged}
use Rattle.sgb_ops.specs.Gunion.{gunion_of}
use Rattle.sgb_ops.proofs.Examples.Operands.{event, block, arcs, title}

-- the moves of each length along one direction, from each of the 12 squares: a step leads that many squares
-- on, and a square and a length make a move where the place is on the board
abbrev moves : ℕ → (ℕ → ℕ → Bool) → List Event
moves step is_on_board =
    flat_map (λ x. map (λ l. event x (x + step * l) l) (filter (is_on_board x) (range_with_len 1 3))) (range_with_len 0 12)

-- a rook's moves along rows and columns
abbrev rook : List Event
rook = moves 1 (λ x l. nat_lt (x % 4 + l) 4) ++ moves 4 (λ x l. nat_lt (x / 4 + l) 3)

-- a bishop's moves along both diagonals
abbrev bishop : List Event
bishop = moves 5 (λ x l. nat_lt (x / 4 + l) 3 && nat_lt (x % 4 + l) 4) ++ moves 3 (λ x l. nat_lt (x / 4 + l) 3 && nat_le l (x % 4))

abbrev squares : List (List ℕ)
squares = map name_of_vector (box (3 ∷ 4 ∷ []))

abbrev rook_graph : GraphData
rook_graph = plain_graph false rook squares (codes "board(3,4,0,0,-1,0,0)")

abbrev bishop_graph : GraphData
bishop_graph = plain_graph false bishop squares (codes "board(3,4,0,0,-2,0,0)")

pub queen_shown :
    (arcs (gunion_of rook_graph bishop_graph false false) ≡ 92)
    × (block (gunion_of rook_graph bishop_graph false false) 0
    ≡ (codes "1.1", pos 1) ∷ (codes "2.2", pos 2) ∷ (codes "0.1", pos 1) ∷ (codes "0.2", pos 2) ∷ (codes "0.3", pos 3) ∷ (codes "1.0", pos 1) ∷ (codes "2.0", pos 2) ∷ [])
    × (block (gunion_of rook_graph bishop_graph false false) 11
    ≡ (codes "2.2", pos 1) ∷ (codes "2.1", pos 2) ∷ (codes "2.0", pos 3) ∷ (codes "1.3", pos 1) ∷ (codes "1.2", pos 1) ∷ (codes "0.3", pos 2) ∷ (codes "0.1", pos 2) ∷ [])
    × (title (gunion_of rook_graph bishop_graph false false)
    ≡ codes "gunion(board(3,4,0,0,-1,0,0),board(3,4,0,0,-2,0,0),0,0)")
unfolding box numbers_from list_from each_edge_once merged digits name_of_vector double_compound_id
queen_shown = (refl, refl, refl, refl)

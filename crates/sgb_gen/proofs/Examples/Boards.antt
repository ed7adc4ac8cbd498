-- Boards whose graphs are known, evaluated.
use Rattle.std.specs.Prelude.{◌≡◌, ℕ, ℤ, pos, negsuc, Bool, true, false, List, [], ◌∷◌, ◌++◌, reverse, Some, None, Result, Ok, Err, codes, refl}
use Rattle.std.specs.Fmt.{digits}
use Rattle.sgb_vec.specs.Boxes.{box}
use Rattle.sgb_vec.specs.Names.{name_of_vector}
use Rattle.sgb_vec.specs.Sizes.{repeated}
use Rattle.sgb_vec.specs.declared.panics.Panic.{Panic}
use Rattle.sgb_vec.specs.declared.panics.Panic.TheVariants.{Bad, VeryBad}
use Rattle.sgb_graph.specs.Events.{list_from}
use Rattle.sgb_graph.specs.Descriptions.{Description}
use Rattle.sgb_graph.specs.declared.fields.Kind.TheVariants.{Z, I}
use Rattle.sgb_graph.specs.declared.fields.Util.TheVariants.{Nothing, Int}
use Rattle.sgb_gen.specs.VectorGraphs.{family_graph}
use Rattle.sgb_moves.specs.Displacements.{displacements, vectors_of_norm, signings}
use Rattle.sgb_moves.specs.inner.EntryBounds.{entry_bounds, vectors_within, displacements_within}
use Rattle.sgb_moves.specs.Moves.{is_bit_set, sides_of, place, reach, board_moves, opposite}
use Rattle.sgb_gen.specs.declared.params.BoardParams.{BoardParams}
use Rattle.sgb_gen.specs.Boards.{BoardData, accepted_board, board, board_id}
use Rattle.sgb_gen.specs.Shorthands.{complete, transitive, circuit, cycle, empty}
use Rattle.sgb_gen.proofs.Examples.Listings.{Shown, arc, block, arcs_of, listing, part, listing_of, part_of, shown_by}

-- board(n1,n2,n3,n4,piece,wrap,directed)
abbrev params : ℤ → ℤ → ℤ → ℤ → ℤ → ℤ → Bool → BoardParams
params n1 n2 n3 n4 piece wrap directed =
    record { n1 = n1; n2 = n2; n3 = n3; n4 = n4; piece = piece; wrap = wrap; directed = directed }

-- ---- displacements, places and lengths

-- a piece of 2 moves to (1,1) and (1,-1), in this order; one of 5 in two dimensions in four ways
pub displacements_of_2 : displacements 2 2 ≡ (pos 1 ∷ pos 1 ∷ []) ∷ (pos 1 ∷ negsuc 0 ∷ []) ∷ []
unfolding displacements vectors_of_norm box
displacements_of_2 = refl

pub displacements_of_5 : displacements 5 2
    ≡ (pos 1 ∷ pos 2 ∷ []) ∷ (pos 1 ∷ negsuc 1 ∷ []) ∷ (pos 2 ∷ pos 1 ∷ []) ∷ (pos 2 ∷ negsuc 0 ∷ []) ∷ []
unfolding displacements vectors_of_norm box
displacements_of_5 = refl

-- a 0 stays and the first other entry stays positive; of the signs after it the rightmost changes fastest
pub signings_of_0102 : signings (0 ∷ 1 ∷ 0 ∷ 2 ∷ 3 ∷ [])
    ≡ (pos 0 ∷ pos 1 ∷ pos 0 ∷ pos 2 ∷ pos 3 ∷ []) ∷ (pos 0 ∷ pos 1 ∷ pos 0 ∷ pos 2 ∷ negsuc 2 ∷ [])
    ∷ (pos 0 ∷ pos 1 ∷ pos 0 ∷ negsuc 1 ∷ pos 3 ∷ []) ∷ (pos 0 ∷ pos 1 ∷ pos 0 ∷ negsuc 1 ∷ negsuc 2 ∷ []) ∷ []
signings_of_0102 = refl

-- a piece of 3 has no displacement in two dimensions
pub displacements_of_3 : displacements 3 2 ≡ []
unfolding displacements vectors_of_norm box
displacements_of_3 = refl

-- on a board of 2 by 3 no piece goes further than 1 and 2; where the first side wraps around, one of 5 goes up to 5 on it
pub bounds_of_2_by_3 : entry_bounds 5 (sides_of (2 ∷ 3 ∷ []) (pos 0)) ≡ 1 ∷ 2 ∷ []
bounds_of_2_by_3 = refl

pub bounds_of_wrapped : entry_bounds 5 (sides_of (2 ∷ 3 ∷ []) (pos 1)) ≡ 5 ∷ 2 ∷ []
bounds_of_wrapped = refl

-- a piece of 5 with a first entry of 1 at most, and with a second one
pub within_2_by_3 : displacements_within 5 (1 ∷ 2 ∷ []) ≡ (pos 1 ∷ pos 2 ∷ []) ∷ (pos 1 ∷ negsuc 1 ∷ []) ∷ []
unfolding displacements_within vectors_within box
within_2_by_3 = refl

pub within_wrapped : displacements_within 5 (5 ∷ 1 ∷ []) ≡ (pos 2 ∷ pos 1 ∷ []) ∷ (pos 2 ∷ negsuc 0 ∷ []) ∷ []
unfolding displacements_within vectors_within box
within_wrapped = refl

-- bits of wrap: of 2 the second is set alone; of -1 all are, also after the 64th; of -2 all but the first
pub bits_of_wrap :
    is_bit_set (pos 2) 0 ∷ is_bit_set (pos 2) 1 ∷ is_bit_set (pos 2) 70 ∷ is_bit_set (negsuc 0) 0 ∷ is_bit_set (negsuc 0) 90 ∷ is_bit_set (negsuc 1) 0 ∷ is_bit_set (negsuc 1) 64 ∷ []
    ≡ false ∷ true ∷ false ∷ true ∷ true ∷ false ∷ true ∷ []
bits_of_wrap = refl

-- from (0,0) by (1,-1) on a board of 3 by 4: out of it at once; to (1,3) where the second side wraps
pub place_outside : place (sides_of (3 ∷ 4 ∷ []) (pos 0)) (0 ∷ 0 ∷ []) (pos 1 ∷ negsuc 0 ∷ []) 1 ≡ None
place_outside = refl

pub place_wrapped : place (sides_of (3 ∷ 4 ∷ []) (pos 2)) (0 ∷ 0 ∷ []) (pos 1 ∷ negsuc 0 ∷ []) 1 ≡ Some (1 ∷ 3 ∷ [])
place_wrapped = refl

-- a rider from 0 around a side of 3 stops before its own start; on a side of 1 it does not move, a leaper does
pub rider_around : reach (sides_of (3 ∷ []) (pos 1)) (negsuc 0) (0 ∷ []) (pos 1 ∷ []) ≡ 1 ∷ 2 ∷ []
rider_around = refl

pub rider_at_home : reach (sides_of (1 ∷ []) (pos 1)) (negsuc 0) (0 ∷ []) (pos 1 ∷ []) ≡ []
rider_at_home = refl

pub leaper_at_home : reach (sides_of (1 ∷ []) (pos 1)) (pos 1) (0 ∷ []) (pos 1 ∷ []) ≡ 1 ∷ []
leaper_at_home = refl

-- the opposite of (1,-2,0); where (1,-1) leads from (0,0) to (1,3), it leads back around the wrapped side
pub opposite_steps : opposite (pos 1 ∷ negsuc 1 ∷ pos 0 ∷ []) ≡ negsuc 0 ∷ pos 2 ∷ pos 0 ∷ []
opposite_steps = refl

pub place_turned_back : place (sides_of (3 ∷ 4 ∷ []) (pos 2)) (1 ∷ 3 ∷ []) (opposite (pos 1 ∷ negsuc 0 ∷ [])) 1 ≡ Some (0 ∷ 0 ∷ [])
place_turned_back = refl

-- a rider goes from 0 by 1 around a side of 3 to 2 in two steps, and by -1 from 2 to 0 in two
pub rider_goes_two : place (sides_of (3 ∷ []) (pos 1)) (0 ∷ []) (pos 1 ∷ []) 2 ≡ Some (2 ∷ [])
rider_goes_two = refl

pub rider_turned_back : reach (sides_of (3 ∷ []) (pos 1)) (negsuc 0) (2 ∷ []) (opposite (pos 1 ∷ [])) ≡ 1 ∷ 2 ∷ []
rider_turned_back = refl

pub rider_home_in_two : place (sides_of (3 ∷ []) (pos 1)) (2 ∷ []) (opposite (pos 1 ∷ [])) 2 ≡ Some (0 ∷ [])
rider_home_in_two = refl

-- ---- graphs

-- board(2,2,0,0,1,0,0)
pub board_of_4 : shown_by listing_of (board (params (pos 2) (pos 2) (pos 0) (pos 0) (pos 1) (pos 0) false))
    ≡ Ok (listing "board(2,2,0,0,1,0,0)" 8
    (block "0.0" (arc "1.0" 1 ∷ arc "0.1" 1 ∷ [])
    ∷ block "0.1" (arc "1.1" 1 ∷ arc "0.0" 1 ∷ [])
    ∷ block "1.0" (arc "0.0" 1 ∷ arc "1.1" 1 ∷ [])
    ∷ block "1.1" (arc "0.1" 1 ∷ arc "1.0" 1 ∷ []) ∷ []))
unfolding box repeated digits name_of_vector list_from displacements vectors_of_norm board_moves board_id family_graph
board_of_4 = refl

-- board(3,0,0,0,-1,1,0): two edges between any two of the vertices, one for each way around
pub riders_around : shown_by listing_of (board (params (pos 3) (pos 0) (pos 0) (pos 0) (negsuc 0) (pos 1) false))
    ≡ Ok (listing "board(3,0,0,0,-1,1,0)" 12
    (block "0" (arc "2" 1 ∷ arc "1" 2 ∷ arc "2" 2 ∷ arc "1" 1 ∷ [])
    ∷ block "1" (arc "2" 2 ∷ arc "0" 2 ∷ arc "2" 1 ∷ arc "0" 1 ∷ [])
    ∷ block "2" (arc "1" 2 ∷ arc "0" 1 ∷ arc "1" 1 ∷ arc "0" 2 ∷ []) ∷ []))
unfolding box repeated digits name_of_vector list_from displacements vectors_of_norm board_moves board_id family_graph
riders_around = refl

-- board(1,0,0,0,1,1,0): one loop, which is two arcs
pub loop : shown_by listing_of (board (circuit (pos 1)))
    ≡ Ok (listing "board(1,0,0,0,1,1,0)" 2 (block "0" (arc "0" 1 ∷ arc "0" 1 ∷ []) ∷ []))
unfolding box repeated digits name_of_vector list_from displacements vectors_of_norm board_moves board_id family_graph
loop = refl

-- board(1,0,0,0,1,1,1): one loop, which is one arc
pub directed_loop : shown_by listing_of (board (cycle (pos 1)))
    ≡ Ok (listing "board(1,0,0,0,1,1,1)" 1 (block "0" (arc "0" 1 ∷ []) ∷ []))
unfolding box repeated digits name_of_vector list_from displacements vectors_of_norm board_moves board_id family_graph
directed_loop = refl

-- board(1,0,0,0,-1,1,0): a rider makes no loop
pub no_loop : shown_by listing_of (board (params (pos 1) (pos 0) (pos 0) (pos 0) (negsuc 0) (pos 1) false))
    ≡ Ok (listing "board(1,0,0,0,-1,1,0)" 0 (block "0" [] ∷ []))
unfolding box repeated digits name_of_vector list_from displacements vectors_of_norm board_moves board_id family_graph
no_loop = refl

-- board(3,0,0,0,-1,0,0)
pub riders : shown_by listing_of (board (complete (pos 3)))
    ≡ Ok (listing "board(3,0,0,0,-1,0,0)" 6
    (block "0" (arc "2" 2 ∷ arc "1" 1 ∷ [])
    ∷ block "1" (arc "2" 1 ∷ arc "0" 1 ∷ [])
    ∷ block "2" (arc "1" 1 ∷ arc "0" 2 ∷ []) ∷ []))
unfolding box repeated digits name_of_vector list_from displacements vectors_of_norm board_moves board_id family_graph
riders = refl

-- transitive(3): the same as arcs, each to a later vertex
pub directed_riders : shown_by listing_of (board (transitive (pos 3)))
    ≡ Ok (listing "board(3,0,0,0,-1,0,1)" 3 (block "0" (arc "2" 2 ∷ arc "1" 1 ∷ []) ∷ block "1" (arc "2" 1 ∷ []) ∷ block "2" [] ∷ []))
unfolding box repeated digits name_of_vector list_from displacements vectors_of_norm board_moves board_id family_graph
directed_riders = refl

-- empty(2) has no arcs
pub no_arcs : shown_by listing_of (board (empty (pos 2))) ≡ Ok (listing "board(2,0,0,0,2,0,0)" 0 (block "0" [] ∷ block "1" [] ∷ []))
unfolding box repeated digits name_of_vector list_from displacements vectors_of_norm board_moves board_id family_graph
no_arcs = refl

-- what the utility fields of complete(2) hold: x is the one coordinate, y and z are 0
pub coordinates : shown_by (λ d. d.fields) (board (complete (pos 2)))
    ≡ Ok ((Nothing ∷ Nothing ∷ Nothing ∷ Int (pos 0) ∷ Int (pos 0) ∷ Int (pos 0) ∷ [])
    ∷ (Nothing ∷ Nothing ∷ Nothing ∷ Int (pos 1) ∷ Int (pos 0) ∷ Int (pos 0) ∷ []) ∷ [])
unfolding box repeated digits name_of_vector displacements vectors_of_norm board_moves board_id family_graph
coordinates = refl

pub kinds_of_a_board : shown_by (λ d. d.kinds) (board (complete (pos 2)))
    ≡ Ok (Z ∷ Z ∷ Z ∷ I ∷ I ∷ I ∷ Z ∷ Z ∷ Z ∷ Z ∷ Z ∷ Z ∷ Z ∷ Z ∷ [])
unfolding box repeated digits name_of_vector displacements vectors_of_norm board_moves board_id family_graph
kinds_of_a_board = refl

-- ---- the queen on 3 by 4: the edges of the rook board(3,4,0,0,-1,0,0) and of the bishop board(3,4,0,0,-2,0,0)

-- the arcs of a vertex, latest event first, and none of a refused board
abbrev arcs_at : Result Description Panic → ℕ → List Shown
arcs_at (Ok d) v = arcs_of d v
arcs_at (Err e) v = []

-- the queen's arcs from 0.0 are the bishop's and then the rook's, each list from its back
pub queen_at_0_0 :
    reverse (arcs_at (board (params (pos 3) (pos 4) (pos 0) (pos 0) (negsuc 1) (pos 0) false)) 0)
    ++ reverse (arcs_at (board (params (pos 3) (pos 4) (pos 0) (pos 0) (negsuc 0) (pos 0) false)) 0)
    ≡ arc "1.1" 1 ∷ arc "2.2" 2 ∷ arc "0.1" 1 ∷ arc "0.2" 2 ∷ arc "0.3" 3 ∷ arc "1.0" 1 ∷ arc "2.0" 2 ∷ []
unfolding box repeated digits name_of_vector list_from displacements vectors_of_norm board_moves board_id family_graph
queen_at_0_0 = refl

-- ---- parameters

-- the id of an accepted board
abbrev id_of : Result BoardData Panic → List ℕ
id_of (Ok b) = board_id b
id_of (Err e) = []

-- board(0,5,5,5,0,0,0) is the chessboard with its official name
pub chessboard_id : id_of (accepted_board (params (pos 0) (pos 5) (pos 5) (pos 5) (pos 0) (pos 0) false))
    ≡ codes "board(8,8,0,0,1,0,0)"
unfolding repeated digits board_id
chessboard_id = refl

-- a negative wrap and the flag stand as given
pub directed_id : id_of (accepted_board (params (pos 2) (pos 3) (pos 4) (pos 0) (negsuc 2) (negsuc 0) true)) ≡ codes "board(2,3,4,0,-3,-1,1)"
unfolding repeated digits board_id
directed_id = refl

-- the chessboard has 64 vertices and 224 arcs
pub chessboard : shown_by (part_of 0) (board (params (pos 0) (pos 5) (pos 5) (pos 5) (pos 0) (pos 0) false))
    ≡ Ok (part "board(8,8,0,0,1,0,0)" 64 224 [])
unfolding box repeated digits name_of_vector displacements vectors_of_norm board_moves board_id family_graph
chessboard = refl

-- too many dimensions, too many vertices, a piece too great on either side, and the greatest piece
pub refused_dimensions : accepted_board (params (pos 2) (negsuc 250) (pos 0) (pos 0) (pos 1) (pos 0) false) ≡ Err Bad
unfolding repeated
refused_dimensions = refl

pub refused_vertices : accepted_board (params (pos 2) (negsuc 29) (pos 0) (pos 0) (pos 1) (pos 0) false) ≡ Err VeryBad
unfolding repeated
refused_vertices = refl

pub refused_product : accepted_board (params (pos 65536) (pos 65536) (pos 0) (pos 0) (pos 1) (pos 0) false) ≡ Err VeryBad
unfolding repeated
refused_product = refl

pub refused_piece : board (params (pos 2) (pos 0) (pos 0) (pos 0) (pos 2147483648) (pos 0) false) ≡ Err VeryBad
unfolding repeated
refused_piece = refl

pub refused_negative_piece : board (params (pos 2) (pos 0) (pos 0) (pos 0) (negsuc 2147483647) (pos 0) false) ≡ Err VeryBad
unfolding repeated
refused_negative_piece = refl

-- at the limits: 1,000,000,000 vertices and the greatest piece
pub greatest_board : accepted_board (params (pos 1_000_000_000) (pos 0) (pos 0) (pos 0) (negsuc 2147483646) (pos 0) true)
    ≡ Ok (record { params = pos 1_000_000_000 ∷ pos 0 ∷ pos 0 ∷ pos 0 ∷ []; sizes = 1_000_000_000 ∷ []; piece = negsuc 2147483646; wrap = pos 0; directed = true })
unfolding repeated
greatest_board = refl

-- Induced graphs, complete bipartite graphs and wheels.
use Rattle.std.specs.Prelude.{◌≡◌, pos, negsuc, false, true, [], ◌∷◌, Err, codes, refl}
use Rattle.std.specs.Fmt.{digits}
use Rattle.sgb_vec.specs.Boxes.{box}
use Rattle.sgb_vec.specs.Names.{name_of_vector}
use Rattle.sgb_vec.specs.Sizes.{repeated}
use Rattle.sgb_gen.specs.VectorGraphs.{family_graph}
use Rattle.sgb_moves.specs.Displacements.{displacements, vectors_of_norm}
use Rattle.sgb_moves.specs.Moves.{board_moves}
use Rattle.sgb_gen.specs.Boards.{board_id}
use Rattle.sgb_vec.specs.declared.panics.Panic.TheVariants.{Bad, VeryBad}
use Rattle.sgb_graph.specs.Graphs.{numbers_from}
use Rattle.sgb_graph.specs.Events.{list_from}
use Rattle.sgb_graph.specs.Ids.{compound_id}
use Rattle.sgb_graph.specs.declared.fields.Kind.TheVariants.{Z, I}
use Rattle.sgb_graph.specs.declared.fields.Util.TheVariants.{Nothing, Int}
use Rattle.sgb_taken.specs.Taken.{each_edge_once}
use Rattle.sgb_ops.specs.Merged.{merged}
use Rattle.sgb_ops.specs.declared.induced_graphs.entries.Entry.TheVariants.{Copies}
use Rattle.sgb_ops.specs.Induced.{induced_of, induced_events}
use Rattle.sgb_ops.specs.BiComplete.{bi_complete_of}
use Rattle.sgb_ops.specs.Wheel.{wheel_of}
use Rattle.sgb_ops.proofs.Examples.Operands.{event, complete_2, complete_3, loop_1, blocks, arcs, names, title, kinds, fields}

-- induced(complete(2),[0,3],0,0,0)
pub induced_shown :
    (names (induced_of complete_2 (Copies 0 ∷ Copies 3 ∷ []) false false false)
    ≡ codes "1:0" ∷ codes "1:1" ∷ codes "1:2" ∷ [])
    × (title (induced_of complete_2 (Copies 0 ∷ Copies 3 ∷ []) false false false)
    ≡ codes "induced(board(2,0,0,0,-1,0,0),,0,0,0)")
unfolding digits numbers_from list_from each_edge_once merged compound_id
induced_shown = (refl, refl)

-- one entry for two vertices; a number that is too great; a sum that is too great
pub entries_refused :
    (induced_of complete_2 (Copies 1 ∷ []) false false false ≡ Err Bad)
    × (induced_of complete_2 (Copies 1 ∷ Copies 2_000_000_000 ∷ []) false false false ≡ Err VeryBad)
    × (induced_of complete_2 (Copies 1 ∷ Copies 1_000_000_000 ∷ []) false false false ≡ Err VeryBad)
entries_refused = (refl, refl, refl)

-- two entries for three vertices: that comes first
pub too_few_great_entries : induced_of complete_3 (Copies 1 ∷ Copies 2_000_000_000 ∷ []) false false false ≡ Err Bad
too_few_great_entries = refl

-- a loop between two copies: each pair of copies once, for arcs each way
pub loop_copied :
    (induced_events loop_1 (Copies 2 ∷ []) true true false ≡ event 0 0 1 ∷ event 0 1 1 ∷ event 1 1 1 ∷ [])
    × (induced_events loop_1 (Copies 2 ∷ []) false true false ≡ event 0 1 1 ∷ [])
    × (induced_events loop_1 (Copies 2 ∷ []) true false true
    ≡ event 0 0 1 ∷ event 0 1 1 ∷ event 1 0 1 ∷ event 1 1 1 ∷ [])
unfolding numbers_from list_from each_edge_once merged
loop_copied = (refl, refl, refl)

-- bi_complete(2,3,0)
pub bi_complete_shown :
    (names (bi_complete_of (pos 2) (pos 3) false)
    ≡ codes "0" ∷ codes "0'" ∷ codes "1:0" ∷ codes "1:1" ∷ codes "1:2" ∷ [])
    × (arcs (bi_complete_of (pos 2) (pos 3) false) ≡ 12)
    × (title (bi_complete_of (pos 2) (pos 3) false) ≡ codes "bi_complete(2,3,0)")
    × (kinds (bi_complete_of (pos 2) (pos 3) false) ≡ Z ∷ Z ∷ Z ∷ Z ∷ Z ∷ Z ∷ Z ∷ Z ∷ I ∷ Z ∷ Z ∷ Z ∷ Z ∷ Z ∷ [])
    × (fields (bi_complete_of (pos 2) (pos 3) false)
    ≡ Int (pos 2) ∷ Nothing ∷ Nothing ∷ Nothing ∷ Nothing ∷ Nothing ∷ [])
unfolding digits numbers_from list_from each_edge_once merged box repeated name_of_vector displacements vectors_of_norm board_moves board_id family_graph compound_id
bi_complete_shown = (refl, refl, refl, refl, refl)

-- bi_complete(-1,2,0), bi_complete(1000000000,1,0)
pub bi_complete_refused :
    (bi_complete_of (negsuc 0) (pos 2) false ≡ Err Bad)
    × (bi_complete_of (pos 1_000_000_000) (pos 1) false ≡ Err VeryBad)
    × (bi_complete_of (pos 1_000_000_001) (negsuc 0) false ≡ Err Bad)
bi_complete_refused = (refl, refl, refl)

-- with no vertices on one side
pub bi_complete_of_none : names (bi_complete_of (pos 0) (pos 1) false) ≡ codes "1" ∷ []
unfolding digits numbers_from list_from each_edge_once merged box repeated name_of_vector displacements vectors_of_norm board_moves board_id family_graph
bi_complete_of_none = refl

-- wheel(3,1,0)
pub wheel_shown :
    (names (wheel_of (pos 3) (pos 1) false) ≡ codes "0" ∷ codes "1:0" ∷ codes "1:1" ∷ codes "1:2" ∷ [])
    × (blocks (wheel_of (pos 3) (pos 1) false)
    ≡ ((codes "1:2", pos 1) ∷ (codes "1:1", pos 1) ∷ (codes "1:0", pos 1) ∷ [])
    ∷ ((codes "0", pos 1) ∷ (codes "1:1", pos 1) ∷ (codes "1:2", pos 1) ∷ [])
    ∷ ((codes "0", pos 1) ∷ (codes "1:2", pos 1) ∷ (codes "1:0", pos 1) ∷ [])
    ∷ ((codes "0", pos 1) ∷ (codes "1:1", pos 1) ∷ (codes "1:0", pos 1) ∷ []) ∷ [])
    × (title (wheel_of (pos 3) (pos 1) false) ≡ codes "wheel(3,1,0)")
unfolding digits box name_of_vector numbers_from list_from each_edge_once merged repeated displacements vectors_of_norm board_moves board_id family_graph compound_id
wheel_shown = (refl, refl, refl)

-- wheel(3,-1,0); a rim that is too great; a middle that is too great
pub wheel_refused :
    (wheel_of (pos 3) (negsuc 0) false ≡ Err Bad)
    × (wheel_of (pos 1_000_000_001) (pos 1) false ≡ Err VeryBad)
    × (wheel_of (pos 3) (pos 1_000_000_001) false ≡ Err VeryBad)
unfolding repeated
wheel_refused = (refl, refl, refl)

-- a rim of one vertex: its loop is dropped
pub wheel_of_one : blocks (wheel_of (pos 1) (pos 1) false) ≡ ((codes "1:0", pos 1) ∷ []) ∷ ((codes "0", pos 1) ∷ []) ∷ []
unfolding digits box name_of_vector numbers_from list_from each_edge_once merged repeated displacements vectors_of_norm board_moves board_id family_graph
wheel_of_one = refl

-- where n is not positive the rim is the board of 8 by 8: 56 edges within rows, 64 from row to row, 64 spokes
pub wheel_of_default : arcs (wheel_of (pos 0) (pos 1) false) ≡ 368
unfolding digits box name_of_vector numbers_from list_from each_edge_once merged repeated displacements vectors_of_norm board_moves board_id family_graph
wheel_of_default = refl

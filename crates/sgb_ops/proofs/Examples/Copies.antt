-- Copies of vertices, graphs in their places, and the entries that are accepted.
use Rattle.std.specs.Prelude.{◌≡◌, pos, negsuc, false, true, [], ◌∷◌, map, Ok, Err, codes, refl}
use Rattle.std.specs.Fmt.{digits}
use Rattle.sgb_vec.specs.Boxes.{box}
use Rattle.sgb_vec.specs.Names.{name_of_vector}
use Rattle.sgb_vec.specs.Sizes.{repeated}
use Rattle.sgb_gen.specs.VectorGraphs.{family_graph}
use Rattle.sgb_moves.specs.Displacements.{displacements, vectors_of_norm}
use Rattle.sgb_moves.specs.Moves.{board_moves}
use Rattle.sgb_gen.specs.Boards.{board_id}
use Rattle.sgb_vec.specs.declared.panics.Panic.TheVariants.{Bad, VeryBad}
use Rattle.sgb_graph.specs.Graphs.{numbers_from}
use Rattle.sgb_graph.specs.Events.{list_from}
use Rattle.sgb_graph.specs.Ids.{compound_id}
use Rattle.sgb_taken.specs.Taken.{each_edge_once}
use Rattle.sgb_ops.specs.Merged.{merged}
use Rattle.sgb_ops.specs.declared.induced_graphs.entries.Entry.TheVariants as entry
use Rattle.sgb_ops.specs.Copies.{own_copies}
use Rattle.sgb_ops.specs.Entries.{accepted_entries, names_by_entries}
use Rattle.sgb_ops.specs.Induced.{induced_events, induced_of}
use Rattle.sgb_ops.specs.Boards.{pair_of_vertices}
use Rattle.sgb_ops.specs.BiComplete.{accepted_parts, bi_complete_of}
use Rattle.sgb_ops.specs.Wheel.{accepted_middle, accepted_rim, wheel_of}
use Rattle.sgb_ops.proofs.Examples.Operands.{event, complete_2, complete_3, circuit_4, cycle_3, path_3, loop_1, blocks, arcs, title}

-- as many vertices as a graph can have, and one more; an entry too many
pub most_entries :
    (accepted_entries 1 (entry.Copies 1_000_000_000 ∷ []) ≡ Ok (entry.Copies 1_000_000_000 ∷ []))
    × (accepted_entries 2 (entry.Copies 999_999_999 ∷ entry.Copies 2 ∷ []) ≡ Err VeryBad)
    × (accepted_entries 2 (entry.Copies 999_999_998 ∷ entry.Graph complete_3 ∷ []) ≡ Err VeryBad)
    × (induced_of complete_2 (entry.Copies 1 ∷ entry.Copies 1 ∷ entry.Copies 1 ∷ []) false false false ≡ Err Bad)
most_entries = (refl, refl, refl, refl)

-- merged vertices up to the greatest number count; 0 is none, and is refused before too many
pub most_merged_numbers :
    (accepted_entries 2 (entry.Merged 3 ∷ entry.Copies 1 ∷ []) ≡ Ok (entry.Merged 3 ∷ entry.Copies 1 ∷ []))
    × (accepted_entries 2 (entry.Merged 999_999_999 ∷ entry.Copies 2 ∷ []) ≡ Err VeryBad)
    × (accepted_entries 2 (entry.Merged 1_000_000_000 ∷ entry.Merged 999_999_999 ∷ []) ≡ Ok (entry.Merged 1_000_000_000 ∷ entry.Merged 999_999_999 ∷ []))
    × (accepted_entries 2 (entry.Copies 2_000_000_000 ∷ entry.Merged 0 ∷ []) ≡ Err Bad)
most_merged_numbers = (refl, refl, refl, refl)

-- merged vertices come first, also those that no entry has
pub merged_names : names_by_entries (codes "a" ∷ codes "b" ∷ codes "c" ∷ []) (entry.Copies 1 ∷ entry.Merged 3 ∷ entry.Copies 2 ∷ [])
    ≡ codes "-1" ∷ codes "-2" ∷ codes "-3" ∷ codes "a" ∷ codes "c" ∷ codes "c'" ∷ []
unfolding digits
merged_names = refl

-- two merged vertices come before the copies; who is merged has no copies of its own
pub copies_of_its_own : map (own_copies (entry.Copies 2 ∷ entry.Merged 2 ∷ entry.Copies 1 ∷ [])) (0 ∷ 1 ∷ 2 ∷ []) ≡ (2 ∷ 3 ∷ []) ∷ [] ∷ (4 ∷ []) ∷ []
copies_of_its_own = refl

-- a circuit whose vertices 0 and 2 are merged: their edges keep their order
pub circuit_with_merged :
    (induced_events circuit_4 (entry.Merged 1 ∷ entry.Copies 1 ∷ entry.Merged 1 ∷ entry.Copies 1 ∷ []) false true false
    ≡ event 0 2 1 ∷ event 0 1 1 ∷ event 1 0 1 ∷ event 0 2 1 ∷ [])
    × (induced_events circuit_4 (entry.Merged 1 ∷ entry.Copies 1 ∷ entry.Merged 1 ∷ entry.Copies 1 ∷ []) false false false
    ≡ event 0 2 1 ∷ event 0 1 1 ∷ [])
unfolding numbers_from list_from each_edge_once merged
circuit_with_merged = (refl, refl)

-- an edge whose ends are merged is a loop; the graph in a place comes after the merged vertices
pub edge_with_merged :
    (induced_events complete_2 (entry.Merged 2 ∷ entry.Merged 2 ∷ []) true false false ≡ event 1 1 1 ∷ [])
    × (induced_events complete_2 (entry.Merged 1 ∷ entry.Graph complete_2 ∷ []) false true false
    ≡ event 1 2 1 ∷ event 0 1 1 ∷ event 0 2 1 ∷ [])
unfolding numbers_from list_from each_edge_once merged
edge_with_merged = (refl, refl)

-- two copies of 0 and of 2, one of 1: for each copy the edge of length 2 comes first
pub copies_of_a_triangle : induced_events complete_3 (entry.Copies 2 ∷ entry.Copies 1 ∷ entry.Copies 2 ∷ []) true true false
    ≡ event 0 3 2 ∷ event 0 4 2 ∷ event 0 2 1 ∷ event 1 3 2 ∷ event 1 4 2 ∷ event 1 2 1 ∷ event 2 3 1 ∷ event 2 4 1 ∷ []
unfolding numbers_from list_from each_edge_once
copies_of_a_triangle = refl

-- arcs lead from copies to copies
pub copies_of_a_cycle : induced_events cycle_3 (entry.Copies 2 ∷ entry.Copies 1 ∷ entry.Copies 0 ∷ []) false true true ≡ event 0 2 1 ∷ event 1 2 1 ∷ []
unfolding numbers_from list_from
copies_of_a_cycle = refl

-- each of the two records of a loop leads from each copy to each
pub parallel_copies : induced_events loop_1 (entry.Copies 2 ∷ []) true true true
    ≡ event 0 0 1 ∷ event 0 1 1 ∷ event 0 0 1 ∷ event 0 1 1 ∷ event 1 0 1 ∷ event 1 1 1 ∷ event 1 0 1 ∷ event 1 1 1 ∷ []
unfolding numbers_from list_from
parallel_copies = refl

-- one copy, a triangle and an edge in the places of the vertices of a path: first the edges inside the graphs, each once
pub graphs_on_a_path : induced_events path_3 (entry.Copies 1 ∷ entry.Graph complete_3 ∷ entry.Graph complete_2 ∷ []) false true false
    ≡ event 1 3 2 ∷ event 1 2 1 ∷ event 2 3 1 ∷ event 4 5 1
    ∷ event 0 1 1 ∷ event 0 2 1 ∷ event 0 3 1 ∷ event 1 4 1 ∷ event 1 5 1 ∷ event 2 4 1 ∷ event 2 5 1 ∷ event 3 4 1 ∷ event 3 5 1 ∷ []
unfolding numbers_from list_from each_edge_once
graphs_on_a_path = refl

-- arcs inside keep their ways
pub cycle_at_an_edge : induced_events complete_2 (entry.Copies 1 ∷ entry.Graph cycle_3 ∷ []) false true true
    ≡ event 1 2 1 ∷ event 2 3 1 ∷ event 3 1 1 ∷ event 0 1 1 ∷ event 0 2 1 ∷ event 0 3 1 ∷ event 1 0 1 ∷ event 2 0 1 ∷ event 3 0 1 ∷ []
unfolding numbers_from list_from
cycle_at_an_edge = refl

-- two copies of a loop: with loops three edges
pub loops_wanted : arcs (induced_of loop_1 (entry.Copies 2 ∷ []) true false false) ≡ 6
unfolding numbers_from list_from each_edge_once merged
loops_wanted = refl

-- the flags in the id
pub titles_with_flags :
    (title (induced_of complete_2 (entry.Copies 1 ∷ entry.Copies 1 ∷ []) true false false) ≡ codes "induced(board(2,0,0,0,-1,0,0),,1,0,0)")
    × (title (induced_of complete_2 (entry.Copies 1 ∷ entry.Copies 1 ∷ []) false true false) ≡ codes "induced(board(2,0,0,0,-1,0,0),,0,1,0)")
unfolding digits numbers_from list_from each_edge_once merged compound_id
titles_with_flags = (refl, refl)

-- bi_complete(2,3,1): arcs one way
pub bi_complete_one_way :
    (arcs (bi_complete_of (pos 2) (pos 3) true) ≡ 6)
    × (title (bi_complete_of (pos 2) (pos 3) true) ≡ codes "bi_complete(2,3,1)")
unfolding digits numbers_from list_from each_edge_once merged box repeated name_of_vector displacements vectors_of_norm board_moves board_id family_graph compound_id
bi_complete_one_way = (refl, refl)

-- the board of both, and as many vertices as a graph can have
pub most_parts :
    (pair_of_vertices true ≡ record { n1 = pos 2; n2 = pos 0; n3 = pos 0; n4 = pos 0; piece = pos 1; wrap = pos 0; directed = true })
    × (accepted_parts (pos 999_999_999) (pos 1) ≡ Ok (entry.Copies 999_999_999 ∷ entry.Copies 1 ∷ []))
most_parts = (refl, refl)

-- bi_complete(2,-1,0)
pub bi_complete_second_negative : bi_complete_of (pos 2) (negsuc 0) false ≡ Err Bad
bi_complete_second_negative = refl

-- wheel(3,1,1): arcs around the rim, and from the middle to it
pub wheel_one_way :
    (blocks (wheel_of (pos 3) (pos 1) true)
    ≡ ((codes "1:2", pos 1) ∷ (codes "1:1", pos 1) ∷ (codes "1:0", pos 1) ∷ [])
    ∷ ((codes "1:1", pos 1) ∷ [])
    ∷ ((codes "1:2", pos 1) ∷ [])
    ∷ ((codes "1:0", pos 1) ∷ []) ∷ [])
    × (title (wheel_of (pos 3) (pos 2) true) ≡ codes "wheel(3,2,1)")
unfolding digits box name_of_vector numbers_from list_from each_edge_once merged repeated displacements vectors_of_norm board_moves board_id family_graph compound_id
wheel_one_way = (refl, refl)

-- a rim of two vertices: of its two edges one is left
pub wheel_of_two : arcs (wheel_of (pos 2) (pos 1) false) ≡ 6
unfolding digits box name_of_vector numbers_from list_from each_edge_once merged repeated displacements vectors_of_norm board_moves board_id family_graph
wheel_of_two = refl

-- the most vertices in the middle, and one more; and the rim, a circle
pub middle_and_rim :
    (accepted_middle (pos 1_000_000_000) ≡ Ok (entry.Copies 1_000_000_000))
    × (accepted_middle (pos 1_000_000_001) ≡ Err VeryBad)
    × (title (accepted_rim (pos 3) (pos 1) false) ≡ codes "board(3,0,0,0,1,1,0)")
unfolding digits box repeated name_of_vector displacements vectors_of_norm board_moves board_id family_graph
middle_and_rim = (refl, refl, refl)

-- a negative middle is refused before a rim that is too great
pub wheel_negative_first : wheel_of (pos 1_000_000_001) (negsuc 0) false ≡ Err Bad
wheel_negative_first = refl

-- Complements, unions and intersections.
use Rattle.std.specs.Prelude.{◌≡◌, pos, true, false, [], ◌∷◌, codes, refl}
use Rattle.std.specs.Fmt.{digits}
use Rattle.sgb_graph.specs.Graphs.{GraphData, numbers_from}
use Rattle.sgb_graph.specs.Events.{list_from}
use Rattle.sgb_graph.specs.Ids.{compound_id, double_compound_id}
use Rattle.sgb_graph.proofs.PlainGraphs.{plain_graph}
use Rattle.sgb_taken.specs.Taken.{each_edge_once}
use Rattle.sgb_ops.specs.Merged.{merged}
use Rattle.sgb_ops.specs.Complement.{complement_of, complement_events}
use Rattle.sgb_ops.specs.Gunion.{gunion_of}
use Rattle.sgb_ops.specs.Intersection.{intersection_of}
use Rattle.sgb_ops.proofs.Examples.Operands.{event, complete_3, complete_4, circuit_3, circuit_4, cycle_3, path_3, loop_1, blocks, block, arcs, names, title}

-- complement(board(3,0,0,0,1,0,0),0,0,0): the two ends of the path
pub complement_of_path : blocks (complement_of path_3 false false false)
    ≡ ((codes "2", pos 1) ∷ []) ∷ [] ∷ ((codes "0", pos 1) ∷ []) ∷ []
unfolding digits numbers_from list_from
complement_of_path = refl

-- with loops and arcs both ways; and a copy, which has the path's edges once each
pub path_complemented :
    (complement_events path_3 false true true
    ≡ event 0 0 1 ∷ event 0 2 1 ∷ event 1 1 1 ∷ event 2 0 1 ∷ event 2 2 1 ∷ [])
    × (complement_events path_3 true false false ≡ event 0 1 1 ∷ event 1 2 1 ∷ [])
unfolding numbers_from list_from
path_complemented = (refl, refl)

-- a loop is copied only where loops are wanted
pub loop_copied :
    (complement_events loop_1 true true false ≡ event 0 0 1 ∷ [])
    × (complement_events loop_1 true false false ≡ [])
unfolding numbers_from list_from
loop_copied = (refl, refl)

-- of a graph with arcs one way: where u has none to w, whatever w has
pub complement_of_cycle : complement_events cycle_3 false false true ≡ event 0 2 1 ∷ event 1 0 1 ∷ event 2 1 1 ∷ []
unfolding numbers_from list_from
complement_of_cycle = refl

-- with edges, where the smaller end has none to the greater one
pub cycle_as_edges :
    (complement_events cycle_3 false false false ≡ event 0 2 1 ∷ [])
    × (complement_events cycle_3 true false false ≡ event 0 1 1 ∷ event 1 2 1 ∷ [])
unfolding numbers_from list_from
cycle_as_edges = (refl, refl)

-- of a graph of no vertices
abbrev nothing : GraphData
nothing = plain_graph false [] [] (codes "simplex(5,2,2,0,0,0,0)")

pub nothing_complemented :
    (names (complement_of nothing false true false) ≡ [])
    × (title (complement_of nothing false true false) ≡ codes "complement(simplex(5,2,2,0,0,0,0),0,1,0)")
unfolding compound_id
nothing_complemented = (refl, refl)

-- gunion(complete(3),circuit(3),0,0): each edge once, with the lesser length
pub union_shown :
    (blocks (gunion_of complete_3 circuit_3 false false)
    ≡ ((codes "1", pos 1) ∷ (codes "2", pos 1) ∷ [])
    ∷ ((codes "2", pos 1) ∷ (codes "0", pos 1) ∷ [])
    ∷ ((codes "1", pos 1) ∷ (codes "0", pos 1) ∷ []) ∷ [])
    × (arcs (gunion_of complete_3 circuit_3 false false) ≡ 6)
    × (arcs (gunion_of complete_3 circuit_3 true false) ≡ 12)
    × (title (gunion_of complete_3 circuit_3 true false) ≡ codes "gunion(board(3,0,0,0,-1,0,0),board(3,0,0,0,1,1,0),1,0)")
unfolding digits numbers_from list_from each_edge_once merged double_compound_id
union_shown = (refl, refl, refl, refl)

-- tips that the first graph has not are left out
pub larger_united :
    (names (gunion_of loop_1 circuit_3 true true) ≡ codes "0" ∷ [])
    × (blocks (gunion_of loop_1 circuit_3 true true) ≡ ((codes "0", pos 1) ∷ (codes "0", pos 1) ∷ []) ∷ [])
unfolding digits numbers_from list_from
larger_united = (refl, refl)

-- a loop that is one arc, as a file may have it, united with itself: multi and directed 1
abbrev ring : GraphData
ring = plain_graph true (event 0 0 1 ∷ []) (codes "x" ∷ []) (codes "ring")

pub union_of_ring : blocks (gunion_of ring ring true true) ≡ ((codes "x", pos 1) ∷ (codes "x", pos 1) ∷ []) ∷ []
unfolding numbers_from list_from
union_of_ring = refl

-- intersection(circuit(4),complete(4),0,0)
pub intersection_shown :
    (block (intersection_of circuit_4 complete_4 false false) 0
    ≡ (codes "1", pos 1) ∷ (codes "3", pos 3) ∷ [])
    × (arcs (intersection_of circuit_4 complete_4 false false) ≡ 8)
    × (title (intersection_of circuit_4 complete_4 false false) ≡ codes "intersection(board(4,0,0,0,1,1,0),board(4,0,0,0,-1,0,0),0,0)")
unfolding digits numbers_from list_from each_edge_once double_compound_id
intersection_shown = (refl, refl, refl)

-- the names are those of the first graph; only the vertices that both have get arcs
pub intersection_with_smaller : blocks (intersection_of circuit_4 complete_3 false false)
    ≡ ((codes "1", pos 1) ∷ []) ∷ ((codes "2", pos 1) ∷ (codes "0", pos 1) ∷ []) ∷ ((codes "1", pos 1) ∷ []) ∷ [] ∷ []
unfolding digits numbers_from list_from each_edge_once
intersection_with_smaller = refl

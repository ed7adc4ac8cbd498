-- Unions and intersections of graphs with parallel edges.
use Rattle.std.specs.Prelude.{◌≡◌, pos, true, false, [], ◌∷◌, codes, refl}
use Rattle.std.specs.Fmt.{digits}
use Rattle.sgb_graph.specs.Graphs.{GraphData, numbers_from}
use Rattle.sgb_graph.specs.Events.{list_from}
use Rattle.sgb_graph.specs.Ids.{double_compound_id}
use Rattle.sgb_graph.proofs.PlainGraphs.{plain_graph}
use Rattle.sgb_taken.specs.Taken.{each_edge_once}
use Rattle.sgb_ops.specs.Merged.{merged, merged_unless}
use Rattle.sgb_ops.specs.Gunion.{gunion_of, union_events}
use Rattle.sgb_ops.specs.Intersection.{intersection_of, intersection_events}
use Rattle.sgb_ops.proofs.Examples.Operands.{event, numbers, complete_3, cycle_3, rider_3, circuit_3, circuit_4, loop_1, arcs, block, title}

-- two edges between 0 and 1, the shorter one last; and graphs with one that is shorter still
abbrev first : GraphData
first = plain_graph false (event 0 1 6 ∷ event 0 2 1 ∷ event 0 1 4 ∷ []) (numbers 3) (codes "first")

abbrev second : GraphData
second = plain_graph false (event 0 1 2 ∷ event 2 1 7 ∷ []) (numbers 3) (codes "second")

-- for each vertex the edges of the first graph and then those of the second, each at its smaller end
pub edges_united :
    (union_events first second false
    ≡ event 0 1 4 ∷ event 0 2 1 ∷ event 0 1 6 ∷ event 0 1 2 ∷ event 1 2 7 ∷ [])
    × (merged_unless false false (union_events first second false)
    ≡ event 0 1 2 ∷ event 0 2 1 ∷ event 1 2 7 ∷ [])
unfolding numbers_from list_from each_edge_once merged
edges_united = (refl, refl)

-- for arcs both records of each edge
pub arcs_united :
    (union_events first second true
    ≡ event 0 1 4 ∷ event 0 2 1 ∷ event 0 1 6 ∷ event 0 1 2
    ∷ event 1 0 4 ∷ event 1 0 6 ∷ event 1 2 7 ∷ event 1 0 2
    ∷ event 2 0 1 ∷ event 2 1 7 ∷ [])
    × (merged_unless false true (union_events first second true)
    ≡ event 0 1 2 ∷ event 0 2 1 ∷ event 1 0 2 ∷ event 1 2 7 ∷ event 2 0 1 ∷ event 2 1 7 ∷ [])
    × (arcs (gunion_of first second false true) ≡ 6)
unfolding numbers_from list_from merged
arcs_united = (refl, refl, refl)

-- with a graph that has fewer vertices
pub union_with_fewer : union_events circuit_3 loop_1 true
    ≡ event 0 2 1 ∷ event 0 1 1 ∷ event 0 0 1 ∷ event 0 0 1
    ∷ event 1 2 1 ∷ event 1 0 1 ∷ event 2 0 1 ∷ event 2 1 1 ∷ []
unfolding numbers_from list_from
union_with_fewer = refl

-- of edges both ways round two between each two vertices
pub riders_intersected :
    (intersection_events rider_3 rider_3 true false
    ≡ event 0 2 1 ∷ event 0 1 2 ∷ event 0 2 2 ∷ event 0 1 1 ∷ event 1 2 2 ∷ event 1 2 1 ∷ [])
    × (intersection_events rider_3 rider_3 false false ≡ event 0 2 1 ∷ event 0 1 1 ∷ event 1 2 1 ∷ [])
unfolding numbers_from list_from each_edge_once
riders_intersected = (refl, refl)

-- the number of parallel ones comes from the graph with fewer, the places and lengths from the second
pub simple_intersected :
    (intersection_events rider_3 complete_3 true false ≡ event 0 2 2 ∷ event 0 1 1 ∷ event 1 2 1 ∷ [])
    × (intersection_events complete_3 rider_3 true false ≡ event 0 2 2 ∷ event 0 1 2 ∷ event 1 2 2 ∷ [])
    × (arcs (intersection_of rider_3 rider_3 true false) ≡ 12)
    × (block (intersection_of rider_3 complete_3 true false) 0 ≡ (codes "1", pos 1) ∷ (codes "2", pos 2) ∷ [])
    × (block (intersection_of complete_3 rider_3 true false) 0 ≡ (codes "1", pos 2) ∷ (codes "2", pos 2) ∷ [])
unfolding digits numbers_from list_from each_edge_once
simple_intersected = (refl, refl, refl, refl, refl)

-- of each loop one record counts in either graph
abbrev loops : GraphData
loops = plain_graph false (event 0 0 1 ∷ event 0 0 2 ∷ []) (numbers 1) (codes "loops")

pub loops_intersected :
    (intersection_events loop_1 loops true false ≡ event 0 0 2 ∷ [])
    × (intersection_events loops loop_1 true false ≡ event 0 0 1 ∷ [])
unfolding numbers_from list_from each_edge_once
loops_intersected = (refl, refl)

-- arcs one way and edges
pub arcs_intersected :
    (intersection_events cycle_3 complete_3 false true ≡ event 0 1 1 ∷ event 1 2 1 ∷ event 2 0 2 ∷ [])
    × (arcs (intersection_of cycle_3 complete_3 false true) ≡ 3)
    × (intersection_events cycle_3 complete_3 false false ≡ event 0 1 1 ∷ event 1 2 1 ∷ [])
unfolding numbers_from list_from each_edge_once
arcs_intersected = (refl, refl, refl)

-- a vertex that the second graph has not
pub fewer_intersected :
    (intersection_events circuit_4 complete_3 true true ≡ event 0 1 1 ∷ event 1 2 1 ∷ event 1 0 1 ∷ event 2 1 1 ∷ [])
    × (title (intersection_of first second true false) ≡ codes "intersection(first,second,1,0)")
unfolding numbers_from list_from double_compound_id
fewer_intersected = (refl, refl)

-- The arcs taken of a list, events merged, arcs in common.
use Rattle.std.specs.Prelude.{◌≡◌, true, false, List, [], ◌∷◌, map, refl}
use Rattle.sgb_graph.specs.Graphs.{numbers_from}
use Rattle.sgb_graph.specs.Events.{Event, list_from}
use Rattle.sgb_graph.specs.declared.fields.Link.{Link}
use Rattle.sgb_taken.specs.Taken.{each_edge_once, taken, edges_up_from, lower_record}
use Rattle.sgb_ops.specs.Merged.{merged}
use Rattle.sgb_ops.specs.Intersection.{common_events}
use Rattle.sgb_ops.proofs.Examples.Operands.{event, link, complete_3, loop_1}

-- tips below the vertex are passed over, later ones are taken
pub taken_of_edges : map (taken false complete_3) (0 ∷ 1 ∷ 2 ∷ 3 ∷ [])
    ≡ (link 2 2 2 ∷ link 0 1 1 ∷ []) ∷ (link 4 2 1 ∷ []) ∷ [] ∷ [] ∷ []
unfolding numbers_from list_from each_edge_once
taken_of_edges = refl

-- of the two records of a loop the first alone
pub taken_of_loop : taken false loop_1 0 ≡ link 0 0 1 ∷ []
unfolding numbers_from list_from each_edge_once
taken_of_loop = refl

-- for a directed result both
pub taken_of_loop_as_arcs : taken true loop_1 0 ≡ link 0 0 1 ∷ link 1 0 1 ∷ []
unfolding numbers_from list_from
taken_of_loop_as_arcs = refl

-- of loops with numbers 0, 1, 2 in a row the first and the third
pub three_loops : each_edge_once 0 (link 0 0 1 ∷ link 1 0 1 ∷ link 2 0 1 ∷ []) ≡ link 0 0 1 ∷ link 2 0 1 ∷ []
unfolding each_edge_once
three_loops = refl

-- the record after a loop is left out whatever its tip, but only with the next number
pub after_loop : each_edge_once 1 (link 4 1 1 ∷ link 5 2 1 ∷ link 7 1 1 ∷ link 9 2 1 ∷ link 3 0 1 ∷ [])
    ≡ link 4 1 1 ∷ link 7 1 1 ∷ link 9 2 1 ∷ []
unfolding each_edge_once
after_loop = refl

-- a record that is passed over leaves out no other
pub after_lower : each_edge_once 1 (link 4 0 1 ∷ link 5 1 1 ∷ []) ≡ link 5 1 1 ∷ []
unfolding each_edge_once
after_lower = refl

-- the edges whose smaller end is 1, with their places; the lower record of the third of some edges
pub edges_of_a_vertex :
    (edges_up_from 1 (event 2 1 5 ∷ event 0 1 6 ∷ event 1 3 7 ∷ []) ≡ (0, event 2 1 5) ∷ (2, event 1 3 7) ∷ [])
    × (map lower_record ((2, event 5 3 9) ∷ (3, event 0 4 9) ∷ []) ≡ link 4 5 9 ∷ link 6 4 9 ∷ [])
edges_of_a_vertex = (refl, refl)

-- parallel edges, and the least length of three
abbrev parallel : List Event
parallel = event 0 1 5 ∷ event 2 2 8 ∷ event 1 0 3 ∷ event 0 1 4 ∷ event 2 2 9 ∷ []

pub merged_edges : merged false parallel ≡ event 0 1 3 ∷ event 2 2 8 ∷ []
unfolding merged
merged_edges = refl

-- arcs to and fro are not parallel
pub merged_arcs : merged true parallel ≡ event 0 1 4 ∷ event 2 2 8 ∷ event 1 0 3 ∷ []
unfolding merged
merged_arcs = refl

-- two arcs to 1, three arcs to 1 among others
abbrev two : List Link
two = link 0 1 5 ∷ link 1 1 2 ∷ link 2 4 1 ∷ []

abbrev three : List Link
three = link 3 1 1 ∷ link 4 3 1 ∷ link 5 1 9 ∷ link 6 1 3 ∷ []

-- the first two of the three are kept, neither shorter than the least of the two
pub common_arcs : common_events true 0 two three ≡ event 0 1 2 ∷ event 0 1 9 ∷ []
common_arcs = refl

-- merged: the greater of the least lengths
pub common_arc : common_events false 0 two three ≡ event 0 1 2 ∷ []
common_arc = refl

-- of the second list its least length counts, not that of its first arc; of the first list too
pub least_lengths :
    (common_events false 0 (link 0 1 2 ∷ []) (link 1 1 5 ∷ link 2 1 3 ∷ []) ≡ event 0 1 3 ∷ [])
    × (common_events false 0 (link 0 1 6 ∷ link 1 1 4 ∷ []) (link 2 1 5 ∷ link 3 1 3 ∷ []) ≡ event 0 1 4 ∷ [])
least_lengths = (refl, refl)

-- each stands at the place of the first arc to its tip in the second list
pub first_places : common_events false 3 (link 0 2 9 ∷ link 1 1 2 ∷ []) (link 2 1 5 ∷ link 3 2 1 ∷ link 4 1 3 ∷ [])
    ≡ event 3 1 3 ∷ event 3 2 9 ∷ []
first_places = refl

-- of three arcs and two both of the two are kept
pub fewer_in_second : common_events true 0 three two ≡ event 0 1 5 ∷ event 0 1 2 ∷ []
fewer_in_second = refl

-- A new graph is one.
use Rattle.sgb_vec.proofs.Common.{◌≤◌, ℕ, List, [], length, map, arith, and_from, le-leb, length-map}
use Rattle.sgb_vec.specs.Limits.{most_vertices}
use Rattle.sgb_graph.specs.Graphs.{GraphData, numbers_from}
use Rattle.sgb_graph.specs.Made.{no_kinds, no_fields}
use Rattle.sgb_graph.specs.Growth.{IsKept, graph_data, new_vertex}
use Rattle.sgb_graph.proofs.Lists.{list_all-made}

-- the parts of a graph of these names with no arcs and no utility fields
abbrev pub made : List ℕ → List (List ℕ) → GraphData
made text names = graph_data text 0 no_kinds no_fields (map new_vertex names) []

-- they make up a graph
pub new_is_kept : (text : List ℕ) (names : List (List ℕ)) → length names ≤ most_vertices → IsKept (made text names)
unfolding numbers_from
new_is_kept text names few = grind (arith, le-leb, length-map, and_from, list_all-made)

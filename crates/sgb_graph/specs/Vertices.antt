-- The vertices of a graph and their names [GB_GRAPH].
use Rattle.std.specs.Prelude.{ℕ, List, [], length, map}
use Rattle.std.specs.List.{range_with_len, slice_index_or}
use Rattle.sgb_graph.specs.Graphs.{GraphData}

-- how many vertices the graph has
abbrev pub order_of : GraphData → ℕ
order_of g = length g.vertices

-- the vertices, 0 to n - 1
abbrev pub places_of : GraphData → List ℕ
places_of g = range_with_len 0 (order_of g)

-- the names of the vertices
abbrev pub names_of : GraphData → List (List ℕ)
names_of g = map (λ x. x.name) g.vertices

-- the name of vertex v
abbrev pub name_at : GraphData → ℕ → List ℕ
name_at g v = slice_index_or (names_of g) v []

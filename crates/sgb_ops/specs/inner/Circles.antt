-- The circle that is the rim of an undirected wheel, and its edges at each vertex [GB_BASIC, wheel].
use Rattle.std.specs.Prelude.{ℕ, ◌+◌, ◌-◌, ◌==◌, pos, false, List, [], ◌∷◌, ◌++◌, codes, map, nat_lt, if◌then◌else◌}
use Rattle.std.specs.List.{flat_map}
use Rattle.sgb_graph.specs.Events.{Event}
use Rattle.sgb_graph.specs.Graphs.{GraphData}
use Rattle.sgb_graph.specs.Made.{graph_described}
use Rattle.sgb_graph.specs.Vertices.{names_of, order_of, places_of}
use Rattle.sgb_ops.specs.Compounds.{joined_name}
use Rattle.sgb_vec.specs.Names.{name_of_vector}
use Rattle.sgb_gen.specs.Boards.{BoardData, board_vector_graph}
use Rattle.sgb_gen.specs.VectorGraphs.{described_by}

-- the accepted board of n vertices in one dimension that wraps around, with an edge for each step
abbrev pub circle_board : ℕ → BoardData
circle_board n = record { params = pos n ∷ pos 0 ∷ pos 0 ∷ pos 0 ∷ []; sizes = n ∷ []; piece = pos 1; wrap = pos 1; directed = false }

-- its graph
abbrev pub circle : ℕ → GraphData
circle n = graph_described (described_by (board_vector_graph (circle_board n)))

-- the name of its vertex w joined with the one given, with a colon between them
abbrev pub name_around : List ℕ → ℕ → List ℕ
name_around text w = joined_name text (codes ":") (name_of_vector (w ∷ []))

-- the names of a graph's vertices so joined
abbrev pub names_joined : List ℕ → GraphData → List (List ℕ)
names_joined text g = map (λ b. joined_name text (codes ":") b) (names_of g)

-- the edge from vertex v to w of the circle, where its first vertex is the one given
abbrev pub edge_around : ℕ → ℕ → ℕ → Event
edge_around start v w = record { from = start + v; to = start + w; len = pos 1 }

-- the edge that closes a circle of n vertices, at the first of them
abbrev pub closing_at : ℕ → ℕ → ℕ → List Event
closing_at n start w = if w == 0 then edge_around start 0 (n - 1) ∷ [] else []

-- the edge from w to the next one
abbrev pub next_at : ℕ → ℕ → ℕ → List Event
next_at n start w = if nat_lt (w + 1) n then edge_around start w (w + 1) ∷ [] else []

-- the edges whose smaller end is w: the last edge of all, which closes the circle, comes first
abbrev pub edges_at : ℕ → ℕ → ℕ → List Event
edges_at n start w = closing_at n start w ++ next_at n start w

-- the edges of a circle, vertex by vertex
abbrev pub edges_around : GraphData → ℕ → List Event
edges_around g start = flat_map (edges_at (order_of g) start) (places_of g)

-- The list of arcs of one vertex, where the vertices are vectors: each arc with the vector where it leads.
use Rattle.std.specs.Prelude.{ℕ, ℤ, Bool, List, [], map, get_or}
use Rattle.sgb_graph.specs.Events.{list_of}
use Rattle.sgb_graph.specs.declared.fields.Link.{Link}
use Rattle.sgb_moves.specs.VectorMoves.{Move}
use Rattle.sgb_gen.specs.VectorGraphs.{VectorGraph, event_among, vertex_among}

-- an arc: the vector where it leads, and its length
pub record LocalArc : Type 0 where
  pub tip : List ℕ
  pub len : ℤ

-- the arcs of a vertex, and how many entries each vector has
pub record LinksData : Type 0 where
  pub width : ℕ
  pub arcs : List LocalArc

-- an arc of a graph whose vertices are these vectors: it leads to the vector of its tip
abbrev pub local_arc : List (List ℕ) → Link → LocalArc
local_arc vectors link = record { tip = get_or vectors link.tip []; len = link.len }

-- the list of x in the graph of these vectors whose events are these moves: the arcs at its vertex, those of later moves first
unfoldable pub list_at : Bool → List (List ℕ) → List Move → List ℕ → List LocalArc
list_at directed vectors moves x = map (local_arc vectors) (list_of directed (map (event_among vectors) moves) (vertex_among vectors x))

-- the list of x in a graph of vectors
abbrev pub list_in : VectorGraph → List ℕ → List LocalArc
list_in g x = list_at g.directed g.vectors g.moves x

-- The graphs that an operation reads, and the event of an arc by its tip and length.
use Rattle.std.specs.Prelude.{if◌then◌else◌, ℕ, ℤ, ◌<◌, Bool, ◌&&◌, ◌||◌, List, [], ◌∷◌, length, nat_le, nat_lt, All}
use Rattle.sgb_graph.specs.Events.{Event}
use Rattle.sgb_graph.specs.Graphs.{GraphData, chain_of}
use Rattle.sgb_graph.specs.Made.{graph_described}
use Rattle.sgb_graph.specs.declared.fields.Link.{Link}
use Rattle.sgb_gen.specs.Generators.{described}
use Rattle.sgb_graph.specs.Vertices.{names_of}
use Rattle.sgb_ops.specs.declared.operands.VertexNames.{VertexNames}
use Rattle.sgb_ops.specs.declared.operands.VertexNames.TheVariants.{Of, Made}
use Rattle.sgb_ops.specs.declared.sources.SourceKind.{SourceKind}
use Rattle.sgb_ops.specs.declared.sources.SourceKind.TheVariants.{Built, Listed}

-- the graph that is kept so
abbrev pub graph_kept : SourceKind → GraphData
graph_kept (Built g) = g.now
graph_kept (Listed l) = graph_described (described l.now)

-- the names of a graph's vertices, as they are read
abbrev pub names_held : VertexNames → List (List ℕ)
names_held (Of g) = names_of g.now
names_held (Made names) = names

-- the arcs of each vertex lead to vertices
abbrev pub HasTips : GraphData → Type 0
HasTips g = (v : ℕ) → v < length g.vertices → All (λ l. l.tip < length g.vertices) (chain_of g v)

-- an arc as far as its tip and its length go
abbrev pub bare : Link → Link
bare l = record { number = 0; tip = l.tip; len = l.len }

-- the event of an arc of v, if its tip is below n and it is taken: for an undirected result none to an earlier vertex is
abbrev pub event_to : Bool → ℕ → ℕ → ℕ → ℤ → List Event
event_to directed v n tip len = if nat_lt tip n && (directed || nat_le v tip) then record { from = v; to = tip; len = len } ∷ [] else []

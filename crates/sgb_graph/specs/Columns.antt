-- The values of the utility fields of vertices and arc records, as a graph keeps them: each field by its kind.
use Rattle.std.specs.Prelude.{map}
use Rattle.sgb_graph.specs.declared.fields.Util.{Util}
use Rattle.sgb_graph.specs.declared.fields.Util.TheVariants.{Nothing, Int, Vertex as VertexField, Str, Chain}
use Rattle.sgb_graph.specs.declared.fields.UtilRef.{UtilRef}
use Rattle.sgb_graph.specs.declared.fields.UtilRef.TheVariants.{Nothing as NothingSeen, Int as IntSeen, Vertex as VertexSeen, Str as StrSeen, Chain as ChainSeen}
use Rattle.sgb_graph.specs.declared.fields.Vertex.{Vertex}
use Rattle.sgb_graph.specs.declared.fields.VertexRef.{VertexRef}
use Rattle.sgb_graph.specs.declared.fields.ArcRec.{ArcRec}
use Rattle.sgb_graph.specs.declared.fields.ArcRef.{ArcRef}

-- the value of a utility field that a reader's view shows
abbrev pub util_seen : UtilRef → Util
util_seen NothingSeen = Nothing
util_seen (IntSeen i) = Int i
util_seen (VertexSeen r) = VertexField r
util_seen (StrSeen text) = Str text.now
util_seen (ChainSeen first) = Chain first

-- the vertex that a reader's view shows
abbrev pub vertex_seen : VertexRef → Vertex
vertex_seen x = record { name = x.name.now; arcs = x.arcs; util = map util_seen x.util }

-- the arc record that a reader's view shows
abbrev pub arc_seen : ArcRef → ArcRec
arc_seen r = record { tip = r.tip; next = r.next; len = r.len; a = util_seen r.a; b = util_seen r.b }

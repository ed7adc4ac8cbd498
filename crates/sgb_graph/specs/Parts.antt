-- The parts of a graph that a file brings, and the graph that they make up [GB_SAVE, restore_graph].
use Rattle.std.specs.Prelude.{◌++◌, ◌&&◌, ℕ, ℤ, List, [], ◌∷◌, length, nat_le, Option, Result, Ok, Err, if◌then◌else◌}
use Rattle.sgb_vec.specs.Limits.{most_vertices}
use Rattle.sgb_vec.specs.declared.panics.Panic.{Panic}
use Rattle.sgb_vec.specs.declared.panics.Panic.TheVariants.{Syntax}
use Rattle.sgb_graph.specs.Graphs.{GraphData}
use Rattle.sgb_graph.specs.Growth.{new_vertex, with_numbers}
use Rattle.sgb_graph.specs.Sound.{fields_fit, is_sound}
use Rattle.sgb_graph.specs.declared.fields.Vertex.{Vertex}
use Rattle.sgb_graph.specs.declared.fields.ArcRec.{ArcRec}

-- the parts with this vertex after the others
abbrev pub with_vertex : Vertex → GraphData → GraphData
with_vertex x g = record g { vertices = g.vertices ++ x ∷ [] }

-- a vertex with this name and this first record, which holds integers in x, y, z and nothing in u, v, w
abbrev pub vertex_with_ints : List ℕ → Option ℕ → ℤ → ℤ → ℤ → Vertex
vertex_with_ints text first x y z = with_numbers x y z (record (new_vertex text) { arcs = first })

-- the parts with this record after the others
abbrev pub with_record : ArcRec → GraphData → GraphData
with_record r g = record g { records = g.records ++ r ∷ [] }

-- the graph that the parts make up: these parts, where they are one (`IsGraph`), or none
abbrev pub checked : GraphData → Result GraphData Panic
checked g = if nat_le (length g.vertices) most_vertices && fields_fit g && is_sound g then Ok g else Err Syntax

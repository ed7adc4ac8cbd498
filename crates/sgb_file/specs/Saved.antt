-- The graphs that can be written to a file and read again [GB_SAVE, save_graph].
use Rattle.std.specs.Prelude.{◌≡◌, ℕ, ◌^◌, ◌<◌, length, All, FitsSigned, IsTrue, nat_le, ⊤}
use Rattle.std.specs.Int.{w64}
use Rattle.sgb_vec.specs.Limits.{most_vertices}
use Rattle.sgb_vec.specs.Names.{IsText}
use Rattle.sgb_graph.specs.Graphs.{GraphData}
use Rattle.sgb_graph.specs.Ids.{IsId}
use Rattle.sgb_graph.specs.Sound.{IsGraph, fields_fit}
use Rattle.sgb_graph.specs.declared.fields.Util.{Util}
use Rattle.sgb_graph.specs.declared.fields.Util.TheVariants.{Nothing, Int, Vertex as VertexField, Str, Chain}
use Rattle.sgb_graph.specs.declared.fields.Vertex.{Vertex}
use Rattle.sgb_graph.specs.declared.fields.ArcRec.{ArcRec}
use Rattle.sgb_file.specs.Fields.{most_number_digits}

-- a file writes its numbers of arcs and of records with at most 18 digits
abbrev pub number_limit : ℕ
number_limit = 10 ^ most_number_digits

-- a value that a field of a file may have: an integer of 64 bits, a string that a file can hold
abbrev pub ValueCanBeSaved : Util → Type 0
ValueCanBeSaved Nothing = ⊤
ValueCanBeSaved (Int i) = FitsSigned w64 i
ValueCanBeSaved (VertexField r) = ⊤
ValueCanBeSaved (Str s) = IsText s
ValueCanBeSaved (Chain first) = ⊤

-- a vertex whose name and fields a file can hold
pub record VertexCanBeSaved (v : Vertex) : Type 0 where
  pub name : IsText v.name
  pub util : All ValueCanBeSaved v.util

-- an arc record whose length and fields a file can hold
pub record ArcCanBeSaved (r : ArcRec) : Type 0 where
  pub len : FitsSigned w64 r.len
  pub a : ValueCanBeSaved r.a
  pub b : ValueCanBeSaved r.b

-- parts of fourteen kinds, whose texts, integers and numbers a file can hold
pub record IsWritable (g : GraphData) : Type 0 where
  pub kinds : length g.kinds ≡ 14
  pub id : IsId g.id
  pub arcs_counted : g.m < number_limit
  pub records_counted : length g.records < number_limit
  pub util : All ValueCanBeSaved g.util
  pub vertices : All VertexCanBeSaved g.vertices
  pub records : All ArcCanBeSaved g.records

-- parts that a file can hold, of not too many vertices, whose fields fit their kinds; their lists need not be sound
pub record CanBeChecked (g : GraphData) : Type 0 where
  pub vertices_fit : IsTrue (nat_le (length g.vertices) most_vertices)
  pub fields : IsTrue (fields_fit g)
  pub writable : IsWritable g

-- parts that make up a graph, and that a file can hold
pub record CanBeSaved (g : GraphData) : Type 0 where
  pub graph : IsGraph g
  pub writable : IsWritable g

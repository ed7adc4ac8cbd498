-- A field of one vertex.
use Rattle.std.specs.Prelude.{ℕ, ℤ}
use Rattle.std.specs.List.{slice_index_or}
use Rattle.sgb_graph.specs.declared.fields.Util.TheVariants.{Nothing}
use Rattle.sgb_graph.specs.declared.fields.Vertex.{Vertex}
use Rattle.sgb_arrays.specs.Fields.{int_of}

-- the integer in this field of a vertex
abbrev pub int_at : ℕ → Vertex → ℤ
int_at field x = int_of (slice_index_or x.util field Nothing)

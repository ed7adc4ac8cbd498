-- The parts of a graph that is copied.
use Rattle.std.specs.Prelude.{List, []}
use Rattle.sgb_graph.specs.Graphs.{GraphData}
use Rattle.sgb_graph.specs.declared.fields.Vertex.{Vertex}
use Rattle.sgb_graph.specs.declared.fields.ArcRec.{ArcRec}

-- all but its vertices and its arc records
abbrev pub bare : GraphData → GraphData
bare g = record g { vertices = []; records = [] }

-- these vertices in the place of others
abbrev pub with_vertices : List Vertex → GraphData → GraphData
with_vertices vertices g = record g { vertices = vertices }

-- these records
abbrev pub with_records : List ArcRec → GraphData → GraphData
with_records records g = record g { records = records }

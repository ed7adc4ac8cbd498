-- Graphs written out by hand, and their files.
use Rattle.std.specs.Prelude.{ℕ, pos, List, [], ◌∷◌, codes, replicate, Option, Some, None, ◌++◌}
use Rattle.sgb_graph.specs.Graphs.{GraphData}
use Rattle.sgb_graph.specs.Made.{no_fields, no_kinds}
use Rattle.sgb_graph.specs.declared.fields.Kind.{Kind}
use Rattle.sgb_graph.specs.declared.fields.Kind.TheVariants.{Z, I}
use Rattle.sgb_graph.specs.declared.fields.Ref.TheVariants.{At}
use Rattle.sgb_graph.specs.declared.fields.Util.TheVariants.{Nothing, Int}
use Rattle.sgb_graph.specs.declared.fields.Vertex.{Vertex}
use Rattle.sgb_graph.specs.declared.fields.ArcRec.{ArcRec}
use Rattle.sgb_file.specs.FileLines.{text_of_lines}

-- the fields x, y, z of vertices are integers, as in boards
abbrev pub board_kinds : List Kind
board_kinds = Z ∷ Z ∷ Z ∷ I ∷ I ∷ I ∷ replicate 8 Z

-- a vertex of a board of one dimension
abbrev pub board_vertex : List ℕ → Option ℕ → ℕ → Vertex
board_vertex name arcs x =
    record { name = name; arcs = arcs; util = Nothing ∷ Nothing ∷ Nothing ∷ Int (pos x) ∷ Int (pos 0) ∷ Int (pos 0) ∷ [] }

-- a vertex without utility fields
abbrev pub plain_vertex : List ℕ → Option ℕ → Vertex
plain_vertex name arcs = record { name = name; arcs = arcs; util = no_fields }

-- an arc record of length 1 without utility fields
abbrev pub plain_arc : ℕ → Option ℕ → ArcRec
plain_arc tip next = record { tip = At tip; next = next; len = pos 1; a = Nothing; b = Nothing }

-- board(1,0,0,0,1,0,0)
abbrev pub one_cell : GraphData
one_cell = record {
  id = codes "board(1,0,0,0,1,0,0)";
  m = 0;
  kinds = board_kinds;
  util = no_fields;
  vertices = board_vertex (codes "0") None 0 ∷ [];
  records = [];
}

abbrev pub one_cell_lines : List (List ℕ)
one_cell_lines =
    codes "* GraphBase graph (util_types ZZZIIIZZZZZZZZ,1V,0A)"
    ∷ codes "\"board(1,0,0,0,1,0,0)\",1,0"
    ∷ codes "* Vertices"
    ∷ codes "\"0\",0,0,0,0"
    ∷ codes "* Arcs"
    ∷ codes "* Checksum 386652336" ∷ []

-- complete(2)
abbrev pub two_joined : GraphData
two_joined = record {
  id = codes "board(2,0,0,0,-1,0,0)";
  m = 2;
  kinds = board_kinds;
  util = no_fields;
  vertices = board_vertex (codes "0") (Some 0) 0 ∷ board_vertex (codes "1") (Some 1) 1 ∷ [];
  records = plain_arc 1 None ∷ plain_arc 0 None ∷ [];
}

abbrev pub two_joined_lines : List (List ℕ)
two_joined_lines =
    codes "* GraphBase graph (util_types ZZZIIIZZZZZZZZ,2V,2A)"
    ∷ codes "\"board(2,0,0,0,-1,0,0)\",2,2"
    ∷ codes "* Vertices"
    ∷ codes "\"0\",A0,0,0,0"
    ∷ codes "\"1\",A1,1,0,0"
    ∷ codes "* Arcs"
    ∷ codes "V1,0,1"
    ∷ codes "V0,0,1"
    ∷ codes "* Checksum 1066721325" ∷ []

-- the graph of no vertices whose id is a
abbrev pub nothing : GraphData
nothing = record { id = codes "a"; m = 0; kinds = no_kinds; util = no_fields; vertices = []; records = [] }

abbrev pub nothing_lines : List (List ℕ)
nothing_lines =
    codes "* GraphBase graph (util_types ZZZZZZZZZZZZZZ,0V,0A)"
    ∷ codes "\"a\",0,0"
    ∷ codes "* Vertices"
    ∷ codes "* Arcs" ∷ []

-- the file of a graph without utility fields: the numbers of its first line, its records, and its checksum
abbrev pub file_text : List ℕ → List ℕ → List (List ℕ) → List (List ℕ) → List ℕ → List ℕ
file_text counts own vertices arcs sum = text_of_lines (
    (codes "* GraphBase graph (util_types ZZZZZZZZZZZZZZ," ++ counts ++ codes ")")
    ∷ own
    ∷ codes "* Vertices"
    ∷ (vertices ++ codes "* Arcs" ∷ (arcs ++ (codes "* Checksum " ++ sum) ∷ [])))

-- a file of one vertex x, with an arc record and an unchecked end
abbrev pub ring_text : List ℕ → List ℕ
ring_text arc = file_text (codes "1V,1A") (codes "\"ring\",1,1") (codes "\"x\",A0" ∷ []) (arc ∷ []) (codes "-1")

-- the graph of one vertex x with this arc record on its list
abbrev pub ring : ArcRec → GraphData
ring arc = record {
  id = codes "ring";
  m = 1;
  kinds = no_kinds;
  util = no_fields;
  vertices = plain_vertex (codes "x") (Some 0) ∷ [];
  records = arc ∷ [];
}

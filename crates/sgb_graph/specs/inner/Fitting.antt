-- Vertices and arc records whose fields fit a graph of so many of them.
use Rattle.std.specs.Prelude.{◌&&◌, ◌-◌, ◌^◌, ℕ, Bool, true, List, [], ◌∷◌, ◌++◌, not}
use Rattle.sgb_graph.specs.Graphs.{GraphData}
use Rattle.sgb_graph.specs.Sound.{arc_kinds, chain_fits, ref_fits, utils_fit, vertex_kinds}
use Rattle.sgb_graph.specs.declared.fields.Kind.{Kind}
use Rattle.sgb_graph.specs.declared.fields.Vertex.{Vertex}
use Rattle.sgb_graph.specs.declared.fields.ArcRec.{ArcRec}

-- a vertex's fields fit n vertices and m records, by these kinds
abbrev pub vertex_fits_by : ℕ → ℕ → List Kind → Vertex → Bool
vertex_fits_by n m kinds v = chain_fits m v.arcs && utils_fit n m kinds v.util

-- a record's fields fit n vertices and m records, by these kinds
abbrev pub record_fits_by : ℕ → ℕ → List Kind → ArcRec → Bool
record_fits_by n m kinds r = ref_fits n r.tip && chain_fits m r.next && utils_fit n m kinds (r.a ∷ r.b ∷ [])

-- no graph has more vertices or records
abbrev pub most : ℕ
most = 2 ^ 64 - 1

-- the vertex may be one of a graph of these fourteen kinds
abbrev pub vertex_may_fit : List Kind → Vertex → Bool
vertex_may_fit kinds v = vertex_fits_by most most (vertex_kinds kinds) v

-- the record may be one of a graph of these fourteen kinds
abbrev pub record_may_fit : List Kind → ArcRec → Bool
record_may_fit kinds r = record_fits_by most most (arc_kinds kinds) r

-- the first element fails the test, where there is one
abbrev pub first_fails : {X : Type 0} → (X → Bool) → List X → Bool
first_fails test [] = true
first_fails test (x ∷ xs) = not (test x)

-- the parts with these vertices and records after the others
abbrev pub with_more : List Vertex → List ArcRec → GraphData → GraphData
with_more vertices records g = record g { vertices = g.vertices ++ vertices; records = g.records ++ records }

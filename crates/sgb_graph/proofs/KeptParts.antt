-- Parts that make up a graph, as the graph keeps them.
use Rattle.sgb_vec.proofs.Common.{◌≡◌, ◌<◌, ◌+◌, ◌^◌, ◌++◌, ℕ, true, List, [], ◌∷◌, length, map, Option, IfSome, refl, arith, and_parts, ltb-true, list_all}
use Rattle.sgb_graph.specs.inner.Columns.{util_kind}
use Rattle.sgb_graph.specs.inner.Fitting.{most, record_may_fit, vertex_fits_by, vertex_may_fit}
use Rattle.sgb_graph.specs.Graphs.{GraphData}
use Rattle.sgb_graph.specs.inner.Kept.{kept_graph}
use Rattle.sgb_graph.specs.inner.KeptRecords.{KeptRecords}
use Rattle.sgb_graph.specs.inner.KeptVertices.{KeptVertices, kinds_of_vertices}
use Rattle.sgb_graph.specs.Growth.{graph_data}
use Rattle.sgb_graph.specs.Sound.{IsGraph, arc_kinds, chain_fits, graph_kinds, util_fits, utils_fit, vertex_fits, vertex_kinds}
use Rattle.sgb_graph.specs.declared.fields.ArcRec.{ArcRec}
use Rattle.sgb_graph.specs.declared.fields.Kind.{Kind}
use Rattle.sgb_graph.specs.declared.fields.Vertex.{Vertex}
use Rattle.sgb_graph.specs.declared.fields.Util.{Util}
use Rattle.sgb_graph.proofs.Growing.{parts_of}

-- a value that fits a kind is of that kind
fits_kind : (n m : ℕ) (kind : Kind) (util : Util) → util_fits n m kind util ≡ true → util_kind util ≡ kind
fits_kind n m kind util e = grind (arith)

-- values that fit kinds are of those kinds
fits_kinds : (n m : ℕ) (kinds : List Kind) (utils : List Util) → utils_fit n m kinds utils ≡ true → map util_kind utils ≡ kinds
fits_kinds n m [] [] e = refl
fits_kinds n m (a ∷ kinds) (u ∷ utils) e = grind (arith, and_parts, fits_kind, fits_kinds n m kinds utils (and_parts (util_fits n m a u) (utils_fit n m kinds utils) e).1)
fits_kinds n m _ _ e = absurd cc

-- a number that may fit can be kept in a word
fits_word : (first : Option ℕ) → chain_fits most first ≡ true → IfSome first (λ k. k + 1 < 2 ^ 64)
fits_word first e = grind (arith, ltb-true)

-- a vertex that may stand in a graph of these kinds can be kept
pub record VertexKept (all : List Kind) (x : Vertex) : Type 0 where
  pub kinds : map util_kind x.util ≡ vertex_kinds all
  pub arcs : IfSome x.arcs (λ k. k + 1 < 2 ^ 64)

pub vertex_kept : (kinds : List Kind) (x : Vertex) → vertex_may_fit kinds x ≡ true → VertexKept kinds x
vertex_kept kinds x fits = grind (arith, and_parts, fits_kinds, fits_word)

-- so can a record
pub record RecordKept (all : List Kind) (r : ArcRec) : Type 0 where
  pub kinds : util_kind r.a ∷ util_kind r.b ∷ [] ≡ arc_kinds all
  pub next : IfSome r.next (λ k. k + 1 < 2 ^ 64)

pub record_kept : (kinds : List Kind) (r : ArcRec) → record_may_fit kinds r ≡ true → RecordKept kinds r
record_kept kinds r fits = grind (arith, and_parts, fits_kinds, fits_word)

-- two kinds that are the same two
pub pair_kinds : (a b c d : Kind) (kinds : List Kind) → a ∷ b ∷ [] ≡ kinds → c ∷ d ∷ [] ≡ kinds → (a ≡ c) × (b ≡ d)
pair_kinds a b c d kinds one other = (cc, cc)

-- kinds are those of vertices, the two of arcs, and those of the graph
kinds_parted : (kinds : List Kind) (a b : Kind) → a ∷ b ∷ [] ≡ arc_kinds kinds → vertex_kinds kinds ++ (arc_kinds kinds ++ graph_kinds kinds) ≡ kinds
kinds_parted kinds a b e = grind (arith)

-- the graph that keeps the vertices and records of these parts is the graph that they make up
pub kept_same : (text : List ℕ) (count : ℕ) (kinds : List Kind) (own : List Util) (vertices : KeptVertices) (records : KeptRecords) → IsGraph (graph_data text count kinds own vertices.items records.items)
    → kinds_of_vertices vertices ≡ vertex_kinds kinds → records.a ∷ records.b ∷ [] ≡ arc_kinds kinds
    → kept_graph text count own vertices records ≡ graph_data text count kinds own vertices.items records.items
kept_same text count kinds own vertices records is nodes arcs = grind (arith, kinds, fits_kinds, parts_of, arcs, kinds_parted)

-- the fields of the vertices fit, as those that are kept do
pub vertices_fit_same : (g : GraphData) (vertices : KeptVertices) (m : ℕ) → vertices.items ≡ g.vertices → m ≡ length g.records → kinds_of_vertices vertices ≡ vertex_kinds g.kinds
    → list_all (vertex_fits_by (length vertices.items) m (kinds_of_vertices vertices)) vertices.items ≡ list_all (vertex_fits g) g.vertices
vertices_fit_same g vertices m nodes count kinds = rw (nodes, count, kinds) refl

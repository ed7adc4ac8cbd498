-- The graph that vertices and arc records as they are kept make up.
use Rattle.std.specs.Prelude.{ℕ, List, ◌∷◌, map}
use Rattle.sgb_graph.specs.inner.Columns.{util_kind}
use Rattle.sgb_graph.specs.Graphs.{GraphData}
use Rattle.sgb_graph.specs.Growth.{graph_data}
use Rattle.sgb_graph.specs.inner.KeptRecords.{KeptRecords}
use Rattle.sgb_graph.specs.inner.KeptVertices.{KeptVertices}
use Rattle.sgb_graph.specs.declared.fields.Kind.{Kind}
use Rattle.sgb_graph.specs.declared.fields.Util.{Util}

-- what the utility fields of a graph's vertices, of its records and its own hold
abbrev pub kinds_kept : KeptVertices → KeptRecords → List Util → List Kind
kinds_kept vertices records util =
    vertices.u ∷ vertices.v ∷ vertices.w ∷ vertices.x ∷ vertices.y ∷ vertices.z ∷ records.a ∷ records.b ∷ map util_kind util

-- the graph that is kept so
abbrev pub kept_graph : List ℕ → ℕ → List Util → KeptVertices → KeptRecords → GraphData
kept_graph text count own vertices records =
    graph_data text count (kinds_kept vertices records own) own vertices.items records.items

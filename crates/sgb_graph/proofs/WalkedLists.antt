-- Walks along the lists of all vertices, one after another.
use Rattle.sgb_vec.proofs.Common.{◌≡◌, ◌<◌, ◌+◌, ◌∙◌, ℕ, true, false, List, [], length, get_or, take, Option, ap, sym, list_all, option_and_then, and_from, list_all_at, list_all_more, slice_get-get_or}
use Rattle.sgb_graph.specs.Graphs.{ends_of}
use Rattle.sgb_graph.specs.Growth.{first_arc, new_vertex}
use Rattle.sgb_graph.specs.inner.Walks.{leads_of, lists_lead_to_vertices}
use Rattle.sgb_graph.specs.declared.fields.ArcRec.{ArcRec}
use Rattle.sgb_graph.specs.declared.fields.Vertex.{Vertex}
use Rattle.sgb_graph.proofs.Lists.{list_all-get}

-- the vertex of a number
abbrev vertex_at : List Vertex → ℕ → Vertex
vertex_at vertices v = get_or vertices v (new_vertex [])

-- the first record of its list
first_at : (vertices : List Vertex) (v : ℕ) (first : Option ℕ) → v < length vertices → first ≡ first_arc vertices v → first ≡ (vertex_at vertices v).arcs
first_at vertices v first below is =
    is ∙ ap (option_and_then (λ (x : Vertex). x.arcs)) (slice_get-get_or vertices v (new_vertex []) below)

-- its list ends, where all do
pub list_ends : (vertices : List Vertex) (records : List ArcRec) (v : ℕ) (first : Option ℕ) → v < length vertices → first ≡ first_arc vertices v → list_all (λ x. ends_of records x.arcs) vertices ≡ true → ends_of records first ≡ true
list_ends vertices records v first below is all =
    ap (ends_of records) (first_at vertices v first below is)
    ∙ list_all-get (λ (x : Vertex). ends_of records x.arcs) vertices v (vertex_at vertices v) all (slice_get-get_or vertices v (new_vertex []) below)

-- not all lists lead to vertices where one does not
pub one_leads_astray : (vertices : List Vertex) (records : List ArcRec) (v : ℕ) (first : Option ℕ) → v < length vertices → first ≡ first_arc vertices v → leads_of records first ≡ false → lists_lead_to_vertices vertices records ≡ false
one_leads_astray vertices records v first below is astray =
    list_all_at (λ (x : Vertex). leads_of records x.arcs) vertices v (new_vertex []) below (ap (leads_of records) (sym (first_at vertices v first below is)) ∙ astray)

-- one list more
pub one_more_leads : (vertices : List Vertex) (records : List ArcRec) (v : ℕ) (first : Option ℕ) → v < length vertices → first ≡ first_arc vertices v → leads_of records first ≡ true
    → lists_lead_to_vertices (take v vertices) records ≡ true → lists_lead_to_vertices (take (v + 1) vertices) records ≡ true
one_more_leads vertices records v first below is leads before =
    let test = λ (x : Vertex). leads_of records x.arcs in
    list_all_more test vertices v (new_vertex []) below
    ∙ and_from (list_all test (take v vertices)) (test (vertex_at vertices v)) before (ap (leads_of records) (sym (first_at vertices v first below is)) ∙ leads)

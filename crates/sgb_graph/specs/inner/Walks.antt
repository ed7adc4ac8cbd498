-- Where chains of records end and lists lead, and walks along them, which mark the records that they passed.
use Rattle.std.specs.Prelude.{◌≡◌, ◌&&◌, ℕ, Bool, true, false, List, length, get_or, Option, Some, IsTrue, slice_get}
use Rattle.std.specs.List.{list_all, range_with_len}
use Rattle.std.specs.Option.{option_map_or}
use Rattle.sgb_graph.specs.Graphs.{ends_of, numbers_of}
use Rattle.sgb_graph.specs.Sound.{chain_fits, is_vertex, leads_to_vertex}
use Rattle.sgb_graph.specs.declared.fields.Vertex.{Vertex}
use Rattle.sgb_graph.specs.declared.fields.ArcRec.{ArcRec}

-- the way by next comes to an end from every record, on a list or not
abbrev pub chains_end : List ArcRec → Bool
chains_end records = list_all (λ k. ends_of records (Some k)) (range_with_len 0 (length records))

-- each arc on the list of a vertex leads to a vertex
abbrev pub lists_lead_to_vertices : List Vertex → List ArcRec → Bool
lists_lead_to_vertices vertices records =
    list_all (λ v. list_all (leads_to_vertex records) (numbers_of records v.arcs)) vertices

-- each arc on the way from a first record leads to a vertex
abbrev pub leads_of : List ArcRec → Option ℕ → Bool
leads_of records first = list_all (leads_to_vertex records) (numbers_of records first)

-- the record leads on to an earlier one, or to none, and leads to a vertex
abbrev pub leads_back : List ArcRec → ℕ → Bool
leads_back records k = option_map_or (λ r. chain_fits k r.next && is_vertex r.tip) (slice_get records k) false

-- the way from each marked record comes to an end
abbrev pub MarksEnd : List ArcRec → List Bool → Type 0
MarksEnd records marks = (k : ℕ) → IsTrue (get_or marks k false) → IsTrue (ends_of records (Some k))

-- each arc on the way from a marked record leads to a vertex
abbrev pub MarksLead : List ArcRec → List Bool → Type 0
MarksLead records marks = (k : ℕ) → IsTrue (get_or marks k false) → IsTrue (leads_of records (Some k))

-- the first record of a way is marked, where it has one
abbrev pub is_marked : List Bool → Option ℕ → Bool
is_marked marks first = option_map_or (λ k. get_or marks k false) first true

-- the record after a marked one is marked, so that all on its way are
abbrev pub MarksGoOn : List ArcRec → List Bool → Type 0
MarksGoOn records marks =
    (k : ℕ) (r : ArcRec) → slice_get records k ≡ Some r → IsTrue (get_or marks k false) → IsTrue (is_marked marks r.next)

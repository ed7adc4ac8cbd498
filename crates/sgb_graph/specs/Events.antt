-- The graph that a list of events makes [GB_GRAPH, gb_new_arc and gb_new_edge].
use Rattle.std.specs.Prelude.{◌≡◌, ◌<◌, ◌+◌, ◌==◌, ℕ, ℤ, min, max, Bool, true, false, List, [], ◌∷◌, ◌++◌, length, map, All, if◌then◌else◌}
use Rattle.std.specs.List.{flat_map}
use Rattle.sgb_graph.specs.Graphs.{GraphData, ListsEnd, chain_of}
use Rattle.sgb_graph.specs.declared.fields.Ref.TheVariants.{At}
use Rattle.sgb_graph.specs.declared.fields.Link.{Link}

-- an arc, or an edge, from one vertex to another
pub record Event : Type 0 where
  pub from : ℕ
  pub to : ℕ
  pub len : ℤ

-- what an arc record says: on whose list it is, where it leads, its length
pub record Record : Type 0 where
  pub start : ℕ
  pub tip : ℕ
  pub len : ℤ

-- the records of an event: an arc is one; an edge is two, the first of them at the smaller end
abbrev pub records_of : Bool → Event → List Record
records_of true e = record { start = e.from; tip = e.to; len = e.len } ∷ []
records_of false e =
    record { start = min e.from e.to; tip = max e.from e.to; len = e.len }
    ∷ record { start = max e.from e.to; tip = min e.from e.to; len = e.len } ∷ []

-- the records of all events, in the order of their numbers
abbrev pub all_records : Bool → List Event → List Record
all_records directed events = flat_map (records_of directed) events

-- of records with the numbers from k on, the arcs that start at v
abbrev pub links_at : ℕ → ℕ → List Record → List Link
links_at v k [] = []
links_at v k (r ∷ records) =
    (if r.start == v then record { number = k; tip = r.tip; len = r.len } ∷ [] else []) ++ links_at v (k + 1) records

-- the list of v where the first record has number k: those of later events come first, the two of a loop by their numbers
unfoldable pub list_from : Bool → ℕ → List Event → ℕ → List Link
list_from directed k [] v = []
list_from directed k (e ∷ events) v =
    list_from directed (k + length (records_of directed e)) events v ++ links_at v k (records_of directed e)

-- the list of arcs of vertex v
abbrev pub list_of : Bool → List Event → ℕ → List Link
list_of directed events v = list_from directed 0 events v

-- the event is between two of n vertices
abbrev pub HasEndsBelow : ℕ → Event → Type 0
HasEndsBelow n e = (e.from < n) × (e.to < n)

-- the graph's arcs are those of the events, which are between its vertices: their number, the records, each list, which ends
pub record HasArcsOf (directed : Bool) (events : List Event) (g : GraphData) : Type 0 where
  pub count : g.m ≡ length (all_records directed events)
  pub tips : map (λ r. r.tip) g.records ≡ map (λ r. At r.tip) (all_records directed events)
  pub lengths : map (λ r. r.len) g.records ≡ map (λ r. r.len) (all_records directed events)
  pub lists : (v : ℕ) → v < length g.vertices → chain_of g v ≡ list_of directed events v
  pub within : All (HasEndsBelow (length g.vertices)) events
  pub ends : ListsEnd g

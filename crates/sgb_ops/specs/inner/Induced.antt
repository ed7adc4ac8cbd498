-- The events of an induced graph, part by part [GB_BASIC, induced].
use Rattle.std.specs.Prelude.{ℕ, ℤ, ◌==◌, Bool, true, not, ◌&&◌, ◌||◌, List, [], ◌∷◌, length, map, filter, flat_map, nat_le}
use Rattle.std.specs.List.{list_any}
use Rattle.sgb_graph.specs.Descriptions.{Description}
use Rattle.sgb_graph.specs.Events.{Event}
use Rattle.sgb_graph.specs.Graphs.{GraphData}
use Rattle.sgb_graph.specs.Made.{plain}
use Rattle.sgb_graph.specs.Vertices.{names_of}
use Rattle.sgb_graph.specs.declared.fields.Link.{Link}
use Rattle.sgb_ops.specs.declared.induced_graphs.entries.Entry.{Entry}
use Rattle.sgb_ops.specs.Entries.{copies_of, names_by_entries}
use Rattle.sgb_ops.specs.Induced.{induced_events}
use Rattle.sgb_taken.specs.Taken.{taken}
use Rattle.sgb_ops.specs.inner.Compounds.{induced_id}

-- copy u of v is joined to copy t of the tip of an arc from v: always; but for a loop of an undirected graph only
-- where t is not before u
abbrev pub is_met : Bool → ℕ → ℕ → ℕ → ℕ → Bool
is_met directed v u tip t = directed || not (tip == v) || nat_le u t

-- the copies of the tip that copy u of v is joined to
abbrev pub copies_met : List Entry → Bool → ℕ → ℕ → ℕ → List ℕ
copies_met entries directed v u tip = filter (is_met directed v u tip) (copies_of entries tip)

-- the event from copy u to copy t for an arc of this length
abbrev pub event_between : ℕ → ℤ → ℕ → Event
event_between u far t = record { from = u; to = t; len = far }

-- the events from copy u of v for an arc from v
abbrev pub events_of_arc : List Entry → Bool → ℕ → ℕ → Link → List Event
events_of_arc entries directed v u a = map (event_between u a.len) (copies_met entries directed v u a.tip)

-- those for all arcs taken of v
abbrev pub events_of_copy : GraphData → List Entry → Bool → ℕ → ℕ → List Event
events_of_copy g entries directed v u = flat_map (events_of_arc entries directed v u) (taken directed g v)

-- those from all copies of v
abbrev pub events_of_copies : GraphData → List Entry → Bool → ℕ → List Event
events_of_copies g entries directed v = flat_map (events_of_copy g entries directed v) (copies_of entries v)

-- no two of the arcs lead to one vertex
abbrev pub lead_apart : List Link → Bool
lead_apart [] = true
lead_apart (a ∷ arcs) = not (list_any (λ l. l.tip == a.tip) arcs) && lead_apart arcs

-- and there are few of them
abbrev pub are_few_apart : List Link → Bool
are_few_apart arcs = nat_le (length arcs) 8 && lead_apart arcs

-- loops are dropped unless they are wanted
abbrev pub is_wanted : Bool → Event → Bool
is_wanted self e = self || not (e.from == e.to)

abbrev pub wanted : Bool → List Event → List Event
wanted self events = filter (is_wanted self) events

-- the graph of entries that are not refused
abbrev pub induced_graph : GraphData → List Entry → Bool → Bool → Bool → Description
induced_graph g entries self multi directed =
    plain directed (induced_events g entries self multi directed) (names_by_entries (names_of g) entries) (induced_id g.id self multi directed)

-- An induced graph under way: its vertices are there, and the events inside the graphs that are put in.
use Rattle.std.specs.Prelude.{◌≡◌, Bool, true, false, List, ◌++◌, map}
use Rattle.sgb_graph.specs.Events.{Event}
use Rattle.sgb_graph.specs.Graphs.{GraphData}
use Rattle.sgb_graph.specs.Growth.{AddsEvents, new_graph, with_id}
use Rattle.sgb_ops.specs.declared.induced_graphs.entries.Entry.{Entry}
use Rattle.sgb_ops.specs.Entries.{events_within, names_by_entries}
use Rattle.sgb_ops.specs.Induced.{events_between}
use Rattle.sgb_ops.specs.Merged.{merged_unless}
use Rattle.sgb_graph.specs.Vertices.{names_of}
use Rattle.sgb_ops.specs.inner.Copies.{sized}
use Rattle.sgb_ops.specs.inner.Parts.{AreInParts}
use Rattle.sgb_ops.specs.inner.Compounds.{induced_id}
use Rattle.sgb_ops.specs.inner.Induced.{wanted}

-- the graph of the names, with no events
abbrev pub named_graph : GraphData → List Entry → GraphData
named_graph g entries = new_graph (names_by_entries (names_of g) entries)

-- the events inside the graphs that are put in are in the graph already, merged, where they share no ends with the others;
-- else they are kept, to be merged with those
abbrev pub HasInside : GraphData → List Entry → Bool → Bool → Bool → Bool → List Event → GraphData → Type 0
HasInside g entries self multi directed true kept built =
    AreInParts g entries directed
    × AddsEvents directed (named_graph g entries) built (merged_unless multi directed (wanted self (events_within entries directed)))
HasInside g entries self multi directed false kept built =
    (kept ≡ wanted self (events_within entries directed)) × (built ≡ named_graph g entries)

-- the graph that is induced by the entries is under way
pub record IsBegun (g : GraphData) (entries : List Entry) (self multi directed : Bool) (copies : List Entry) (in_parts : Bool) (kept : List Event) (built : GraphData) : Type 0 where
  pub sized_copies : copies ≡ map sized entries
  pub inside : HasInside g entries self multi directed in_parts kept built

-- the events that are still to come: those between copies, merged with those that are kept
abbrev pub later_events : Bool → Bool → Bool → List Event → List Event → List Event
later_events true multi directed kept between = merged_unless multi directed between
later_events false multi directed kept between = merged_unless multi directed (kept ++ between)

-- the graph under way with these events and its id
abbrev pub IsFinished : GraphData → Bool → Bool → Bool → List Entry → Bool → List Event → GraphData → GraphData → Type 0
IsFinished g self multi directed copies in_parts kept built done =
    (grown : GraphData)
    × AddsEvents directed built grown (later_events in_parts multi directed kept (wanted self (events_between g copies directed)))
    × (done ≡ with_id (induced_id g.id self multi directed) grown)

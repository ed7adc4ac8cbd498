-- Entries as they are kept in few bytes, and the graph that an entry puts in.
use Rattle.std.specs.Prelude.{ℕ, Bool, true, false, Option, Some, None}
use Rattle.sgb_graph.specs.Graphs.{GraphData}
use Rattle.sgb_ops.specs.declared.induced_graphs.entries.Entry.{Entry}
use Rattle.sgb_ops.specs.declared.induced_graphs.entries.Entry.TheVariants as entry
use Rattle.sgb_ops.specs.declared.induced_graphs.slots.Inner.{Inner}
use Rattle.sgb_ops.specs.declared.induced_graphs.slots.Inner.TheVariants as inner
use Rattle.sgb_ops.specs.declared.induced_graphs.slots.KeptGraph.{KeptGraph}
use Rattle.sgb_ops.specs.declared.induced_graphs.slots.KeptGraph.TheVariants as kept

-- the graph that a kept entry puts in, if any
abbrev pub graph_of_entry : KeptGraph → Option GraphData
graph_of_entry kept.None = None
graph_of_entry (kept.Built g) = Some g.value
graph_of_entry (kept.Circle c) = Some c

-- the graph that is read
abbrev pub inner_held : Inner → GraphData
inner_held (inner.Built g) = g.now
inner_held (inner.Circle c) = c.now

-- the entry of this graph, if there is one; else of the merged vertex of this number, or of so many copies
abbrev pub entry_of_slot : ℕ → Bool → Option GraphData → Entry
entry_of_slot count is_merged (Some inner) = entry.Graph inner
entry_of_slot count true None = entry.Merged count
entry_of_slot count false None = entry.Copies count

-- the graph that is put in, if the entry is one
abbrev pub inner_graph : Entry → Option GraphData
inner_graph (entry.Graph inner) = Some inner
inner_graph _ = None

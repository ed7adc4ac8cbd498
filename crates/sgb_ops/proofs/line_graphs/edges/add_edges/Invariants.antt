use Rattle.std.proofs.Common.{◌≡◌, ℕ, false, drop, take, length}
use Rattle.sgb_graph.proofs.AddedEvents.{AddsUpTo}
use Rattle.sgb_ops.specs.Lines.{line_events}
use Rattle.sgb_ops.specs.inner.LineLists.{list_at, numbers_at}
use Rattle.sgb_ops.proofs.LineEvents.{events_from}
use Rattle.sgb_ops.proofs.line_graphs.edges.add_edges.Given as goal

-- the events from the lines from number i on are still to come, and the lists have the lines before
abbrev pub invariant-loop-i : goal.invariant-loop-i
invariant-loop-i l =
    AddsUpTo false l.fn.built l.built (events_from false l.lines l.i (drop l.i l.lines)) (line_events false l.lines)
    × ((w : ℕ) → list_at l.lists.items w ≡ numbers_at w (take l.i l.lines))
    × (length l.lists.items ≡ l.n)

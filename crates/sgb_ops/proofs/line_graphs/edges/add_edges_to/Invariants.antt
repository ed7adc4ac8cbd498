use Rattle.std.proofs.Common.{false, drop, filter}
use Rattle.sgb_graph.proofs.AddedEvents.{AddsUpTo}
use Rattle.sgb_ops.specs.inner.Lines.{events_to_numbers}
use Rattle.sgb_ops.specs.inner.LineLists.{counts}
use Rattle.sgb_ops.proofs.line_graphs.edges.add_edges_to.Given as goal

-- the events to those of the list that are left are still to come
abbrev pub invariant-loop-j : goal.invariant-loop-j
invariant-loop-j l =
    AddsUpTo false l.fn.built l.built (events_to_numbers l.i (filter (counts l.elsewhere l.lines l.i) (drop l.j-index l.list)))
    (events_to_numbers l.i (filter (counts l.elsewhere l.lines l.i) l.list))

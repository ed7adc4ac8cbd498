use Rattle.std.proofs.Common.{true, drop}
use Rattle.sgb_graph.proofs.AddedEvents.{AddsUpTo}
use Rattle.sgb_ops.specs.Lines.{line_events}
use Rattle.sgb_ops.proofs.LineEvents.{events_from}
use Rattle.sgb_ops.proofs.line_graphs.arcs.add_arcs.Given as goal

-- the events from the lines from number i on are still to come
abbrev pub invariant-loop-i : goal.invariant-loop-i
invariant-loop-i l = AddsUpTo true l.fn.built l.built (events_from true l.lines l.i (drop l.i l.lines)) (line_events true l.lines)

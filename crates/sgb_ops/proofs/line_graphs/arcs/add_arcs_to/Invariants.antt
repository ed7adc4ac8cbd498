use Rattle.sgb_ops.specs.inner.Lines.{events_to_numbers}
use Rattle.sgb_graph.proofs.AddedEvents.{AddsUpTo}
use Rattle.sgb_vec.proofs.Common.{true, ◌-◌, range_with_len}
use Rattle.sgb_ops.proofs.line_graphs.arcs.add_arcs_to.Given as goal

-- the events to the numbers from j on are still to come
abbrev pub invariant-loop-j : goal.invariant-loop-j
invariant-loop-j l = AddsUpTo true l.fn.built l.built (events_to_numbers l.i (range_with_len l.j (l.end - l.j))) (events_to_numbers l.i (range_with_len l.first (l.end - l.first)))

use Rattle.std.proofs.Common.{drop, flat_map}
use Rattle.sgb_graph.proofs.AddedEvents.{AddsUpTo}
use Rattle.sgb_ops.specs.inner.Induced.{events_of_arc, wanted}
use Rattle.sgb_ops.proofs.induced_graphs.added.add_from_copy.Given as goal

-- the events for the arcs that are left are still to come
abbrev pub invariant-loop-arc : goal.invariant-loop-arc
invariant-loop-arc l =
    let events = events_of_arc l.copies l.flags.directed l.v l.u in
    AddsUpTo l.flags.directed l.fn.built l.built (wanted l.flags.self_loops (flat_map events (drop l.arc-index l.arcs))) (wanted l.flags.self_loops (flat_map events l.arcs))

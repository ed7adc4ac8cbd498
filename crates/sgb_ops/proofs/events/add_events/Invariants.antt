use Rattle.std.proofs.Common.{drop}
use Rattle.sgb_graph.proofs.AddedEvents.{AddsUpTo}
use Rattle.sgb_ops.proofs.events.add_events.Given as goal

-- the events from this place on are still to come
abbrev pub invariant-loop-event : goal.invariant-loop-event
invariant-loop-event l = AddsUpTo l.directed l.fn.built l.built (drop l.event-index l.events) l.events

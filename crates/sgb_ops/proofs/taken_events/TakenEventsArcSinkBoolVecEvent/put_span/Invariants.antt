use Rattle.std.proofs.Common.{Bool, List, drop}
use Rattle.sgb_graph.specs.Events.{Event}
use Rattle.sgb_gen.specs.Spans.{arcs_of_span}
use Rattle.sgb_gen.proofs.ArcsInTurn.{TakenSoFar}
use Rattle.sgb_ops.specs.inner.TakenEvents.{TakesArcs}
use Rattle.sgb_ops.proofs.taken_events.TakenEventsArcSinkBoolVecEvent.put_span.Given as goal

-- the arcs from this one on are still to come
abbrev pub invariant-loop-k : goal.invariant-loop-k
invariant-loop-k g l =
    TakenSoFar {R = Bool} {S = List Event} (λ own before arcs ended now. TakesArcs (g.P.VectorPlaces.vectors l.self.places.now) l.self.directed l.self.loops_once l.self.vertex l.self.n own before arcs ended now)
    (arcs_of_span l.span) (drop l.k (arcs_of_span l.span)) l.fn.after_loop l.fn.events.items l.after_loop l.events.items

use Rattle.sgb_graph.proofs.AddedEvents.{AddsUpTo}
use Rattle.sgb_ops.specs.inner.Copies.{copies_end}
use Rattle.sgb_ops.specs.inner.Induced.{events_of_arc, wanted}
use Rattle.sgb_ops.proofs.WantedEvents.{events_met}
use Rattle.sgb_ops.proofs.induced_graphs.added.add_to_copies.Given as goal

-- the events to the copies from t on are still to come
abbrev pub invariant-loop-t : goal.invariant-loop-t
invariant-loop-t l =
    AddsUpTo l.flags.directed l.fn.built l.built (wanted l.flags.self_loops (events_met l.flags.directed l.v l.u l.arc (copies_end l.copies l.arc.tip) l.t))
    (wanted l.flags.self_loops (events_of_arc l.copies l.flags.directed l.v l.u l.arc))

use Rattle.std.proofs.Common.{◌≡◌, ◌++◌}
use Rattle.sgb_ops.specs.inner.Copies.{copies_end}
use Rattle.sgb_ops.specs.inner.Induced.{events_of_arc, wanted}
use Rattle.sgb_ops.proofs.WantedEvents.{events_met}
use Rattle.sgb_ops.proofs.induced_graphs.events.push_to_copies.Given as goal

-- with those to the copies from t on, they are all
abbrev pub invariant-loop-t : goal.invariant-loop-t
invariant-loop-t l =
    l.events.items ++ wanted l.flags.self_loops (events_met l.flags.directed l.v l.u l.arc (copies_end l.copies l.arc.tip) l.t)
    ≡ l.fn.events.items ++ wanted l.flags.self_loops (events_of_arc l.copies l.flags.directed l.v l.u l.arc)

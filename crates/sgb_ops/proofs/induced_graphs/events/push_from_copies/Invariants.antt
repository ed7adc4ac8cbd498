use Rattle.std.proofs.Common.{◌≡◌, ◌++◌}
use Rattle.sgb_ops.specs.inner.Copies.{copies_end}
use Rattle.sgb_ops.specs.inner.Induced.{events_of_copies, events_of_copy, wanted}
use Rattle.sgb_ops.proofs.WantedEvents.{events_until}
use Rattle.sgb_ops.proofs.induced_graphs.events.push_from_copies.Given as goal

-- with those from the copies from u on, they are all
abbrev pub invariant-loop-u : goal.invariant-loop-u
invariant-loop-u l =
    l.events.items ++ wanted l.flags.self_loops (events_until (events_of_copy l.graph l.copies l.flags.directed l.v) (copies_end l.copies l.v) l.u)
    ≡ l.fn.events.items ++ wanted l.flags.self_loops (events_of_copies l.graph l.copies l.flags.directed l.v)

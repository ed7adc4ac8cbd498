use Rattle.std.proofs.Common.{◌≡◌, ◌++◌, length}
use Rattle.sgb_ops.specs.Induced.{events_between}
use Rattle.sgb_ops.specs.inner.Induced.{events_of_copies, wanted}
use Rattle.sgb_ops.proofs.WantedEvents.{events_until}
use Rattle.sgb_ops.proofs.induced_graphs.events.push_events_between.Given as goal

-- with those from the copies of the vertices from v on, they are all
abbrev pub invariant-loop-v : goal.invariant-loop-v
invariant-loop-v l =
    l.events.items ++ wanted l.flags.self_loops (events_until (events_of_copies l.graph l.copies l.flags.directed) (length l.graph.vertices) l.v)
    ≡ l.fn.events.items ++ wanted l.flags.self_loops (events_between l.graph l.copies l.flags.directed)

use Rattle.std.proofs.Common.{◌≡◌, ◌++◌, drop}
use Rattle.sgb_ops.specs.Entries.{events_within}
use Rattle.sgb_ops.specs.inner.Induced.{wanted}
use Rattle.sgb_ops.proofs.WantedEvents.{events_within_from}
use Rattle.sgb_ops.proofs.induced_graphs.events.events_within.Given as goal

-- with those inside the entries from v on, they are all
abbrev pub invariant-loop-v : goal.invariant-loop-v
invariant-loop-v l =
    l.events.items ++ wanted l.flags.self_loops (events_within_from l.entries l.flags.directed l.v (drop l.v l.entries))
    ≡ wanted l.flags.self_loops (events_within l.entries l.flags.directed)

use Rattle.std.proofs.Common.{◌≡◌, ◌++◌, length}
use Rattle.sgb_ops.specs.declared.induced_graphs.entries.Entry.TheVariants as entry
use Rattle.sgb_ops.specs.Entries.{inner_events}
use Rattle.sgb_ops.specs.inner.Entries.{inner_events_from}
use Rattle.sgb_ops.specs.inner.Induced.{wanted}
use Rattle.sgb_ops.proofs.WantedEvents.{events_until}
use Rattle.sgb_ops.proofs.induced_graphs.events.push_graph.Given as goal

-- with those of the vertices from w on, they are all
abbrev pub invariant-loop-w : goal.invariant-loop-w
invariant-loop-w l =
    l.events.items ++ wanted l.flags.self_loops (events_until (inner_events_from l.flags.directed l.start l.inner) (length l.inner.vertices) l.w)
    ≡ l.fn.events.items ++ wanted l.flags.self_loops (inner_events l.flags.directed l.start (entry.Graph l.inner))

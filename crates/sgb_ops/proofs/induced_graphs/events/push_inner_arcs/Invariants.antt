use Rattle.std.proofs.Common.{◌≡◌, ◌++◌, map, length, All}
use Rattle.sgb_ops.specs.inner.Entries.{inner_event, inner_events_from}
use Rattle.sgb_ops.specs.inner.Induced.{wanted}
use Rattle.sgb_taken.proofs.TakenTips.{TipBelow}
use Rattle.sgb_ops.proofs.induced_graphs.events.push_inner_arcs.Given as goal

-- with those of the arcs that are left, they are all
abbrev pub invariant-loop-arc : goal.invariant-loop-arc
invariant-loop-arc l =
    All (TipBelow (length l.inner.vertices)) l.arc-iterator
    × (l.events.items ++ wanted l.flags.self_loops (map (inner_event l.start l.w) l.arc-iterator)
    ≡ l.fn.events.items ++ wanted l.flags.self_loops (inner_events_from l.flags.directed l.start l.inner l.w))

use Rattle.std.proofs.Common.{◌≡◌, ◌++◌, drop, filter, map}
use Rattle.sgb_ops.specs.inner.Copies.{leads_to_copies}
use Rattle.sgb_taken.specs.inner.Ends.{link_of}
use Rattle.sgb_ops.proofs.induced_graphs.rooms.push_arcs_to_copies.Given as goal

-- with those of the events that are left, they are all
abbrev pub invariant-loop-event : goal.invariant-loop-event
invariant-loop-event l =
    l.arcs.items ++ filter (leads_to_copies l.copies) (map link_of (drop l.event-index l.events))
    ≡ l.fn.arcs.items ++ filter (leads_to_copies l.copies) (map link_of l.events)

use Rattle.std.proofs.Common.{◌≡◌, ◌++◌, drop, flat_map}
use Rattle.sgb_ops.specs.inner.Induced.{events_of_arc, wanted}
use Rattle.sgb_ops.proofs.induced_graphs.events.push_from_copy.Given as goal

-- with those for the arcs that are left, they are all
abbrev pub invariant-loop-arc : goal.invariant-loop-arc
invariant-loop-arc l =
    l.events.items ++ wanted l.flags.self_loops (flat_map (events_of_arc l.copies l.flags.directed l.v l.u) (drop l.arc-index l.arcs))
    ≡ l.fn.events.items ++ wanted l.flags.self_loops (flat_map (events_of_arc l.copies l.flags.directed l.v l.u) l.arcs)

use Rattle.std.proofs.Common.{◌≡◌, ◌++◌, length, max}
use Rattle.sgb_ops.specs.Intersection.{intersection_events}
use Rattle.sgb_ops.specs.inner.Intersection.{HasNoTallies}
use Rattle.sgb_ops.proofs.CommonEvents.{events_after}
use Rattle.sgb_ops.proofs.intersections.common_arcs.Given as goal

-- with the events of the vertices from v on, they are all; nothing stands in the tables
abbrev pub invariant-loop-v : goal.invariant-loop-v
invariant-loop-v l =
    (l.events.items ++ events_after l.first l.second l.multi l.directed l.v ≡ intersection_events l.first l.second l.multi l.directed)
    × (l.tables.vertices ≡ max (length l.first.vertices) (length l.second.vertices))
    × HasNoTallies l.tables

use Rattle.std.proofs.Common.{◌≡◌, ◌++◌, take, drop}
use Rattle.sgb_ops.specs.Intersection.{common_events}
use Rattle.sgb_ops.proofs.CommonEvents.{commons_after}
use Rattle.sgb_ops.proofs.intersections.push_common_of_few.Given as goal

-- with the events of the arcs that are to come, they are all
abbrev pub invariant-loop-k : goal.invariant-loop-k
invariant-loop-k l =
    l.events.items ++ commons_after l.multi l.v l.ours l.theirs (take l.k l.theirs) (drop l.k l.theirs) ≡ l.fn.events.items ++ common_events l.multi l.v l.ours l.theirs

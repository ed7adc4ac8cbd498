use Rattle.std.proofs.Common.{◌≡◌, ◌++◌, ℕ, length, take, drop}
use Rattle.sgb_ops.specs.Intersection.{common_events}
use Rattle.sgb_ops.specs.inner.Tallies.{tally_at}
use Rattle.sgb_ops.proofs.CommonEvents.{commons_after, left_after}
use Rattle.sgb_ops.proofs.intersections.push_common_by.Given as goal

-- with the events of the arcs that are to come, they are all; the arcs so far are counted as gone
abbrev pub invariant-loop-arc : goal.invariant-loop-arc
invariant-loop-arc l =
    (l.events.items ++ commons_after l.multi l.v l.ours l.theirs (take l.arc-index l.theirs) (drop l.arc-index l.theirs) ≡ l.fn.events.items ++ common_events l.multi l.v l.ours l.theirs)
    × ((u : ℕ) → tally_at l.left u ≡ left_after l.multi u l.ours (take l.arc-index l.theirs))
    × (length l.left ≡ length l.fn.left)

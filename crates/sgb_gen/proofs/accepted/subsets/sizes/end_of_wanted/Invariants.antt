use Rattle.std.proofs.Common.{ℕ, ◌<◌, ◌≤◌}
use Rattle.sgb_gen.specs.inner.Descents.{HasNoArcs}
use Rattle.sgb_gen.proofs.accepted.subsets.sizes.end_of_wanted.Given as goal

-- none of the entries from here on may have arcs
abbrev pub invariant-loop-after : goal.invariant-loop-after
invariant-loop-after l =
    (l.low ≤ l.after)
    × (l.after ≤ l.end)
    × ((e : ℕ) → l.after ≤ e → e < l.end → HasNoArcs l.begun.size_bits l.begun.room l.begun.shared l.begun.left l.begun.common l.bound l.own e)

abbrev pub decreases-loop-after : goal.decreases-loop-after
decreases-loop-after l = l.after

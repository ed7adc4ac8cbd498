use Rattle.std.proofs.Common.{ℕ, ◌-◌, ◌<◌, ◌≤◌}
use Rattle.sgb_gen.specs.inner.Descents.{HasNoArcs}
use Rattle.sgb_gen.proofs.accepted.subsets.sizes.least_wanted.Given as goal

-- none of the entries so far may have arcs
abbrev pub invariant-loop-least : goal.invariant-loop-least
invariant-loop-least l =
    (l.low ≤ l.least)
    × (l.least ≤ l.end)
    × ((e : ℕ) → l.low ≤ e → e < l.least → HasNoArcs l.begun.size_bits l.begun.room l.begun.shared l.begun.left l.begun.common l.bound l.own e)

abbrev pub decreases-loop-least : goal.decreases-loop-least
decreases-loop-least l = l.end - l.least

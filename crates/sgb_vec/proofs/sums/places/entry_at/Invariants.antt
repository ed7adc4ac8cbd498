use Rattle.std.proofs.Common.{◌≡◌, ◌+◌, ◌-◌, ◌<◌, ◌≤◌}
use Rattle.sgb_vec.specs.inner.SumPlaces.{count_below}
use Rattle.sgb_vec.proofs.sums.places.entry_at.Given as goal

-- no more vectors than the place come before the entry, and more before the one after the top
abbrev pub invariant-loop-entry : goal.invariant-loop-entry
invariant-loop-entry l =
    (l.entry ≤ l.top)
    × (l.top ≤ l.bound)
    × (l.top ≤ l.total)
    × (l.before ≡ count_below l.total l.entry l.after)
    × (l.before ≤ l.place)
    × (l.place < count_below l.total (l.top + 1) l.after)

abbrev pub decreases-loop-entry : goal.decreases-loop-entry
decreases-loop-entry l = l.top - l.entry

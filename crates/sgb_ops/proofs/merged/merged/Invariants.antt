use Rattle.std.proofs.Common.{◌≡◌, map, take}
use Rattle.sgb_taken.specs.inner.Ends.{ends_key}
use Rattle.sgb_ops.specs.Merged.{merged}
use Rattle.sgb_ops.proofs.merged.merged.Given as goal

-- the events so far are merged
abbrev pub invariant-loop-event : goal.invariant-loop-event
invariant-loop-event l =
    (l.left.items ≡ merged l.directed (take l.event-index l.events))
    × (l.ends.keys ≡ map (ends_key l.directed) l.left.items)

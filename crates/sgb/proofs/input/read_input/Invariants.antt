-- What is gone from the source is kept, and where something is kept the source has not failed.
use Rattle.std.proofs.Common.{◌≡◌, ◌≤◌, ◌<◌, ◌+◌, ◌-◌, false, length}
use Rattle.std.specs.Io.KnownBytes.{Consumes}
use Rattle.sgb_values.specs.Values.{most_input}
use Rattle.sgb.proofs.input.read_input.Given as goal

abbrev pub invariant-loop-buffer : goal.invariant-loop-buffer
invariant-loop-buffer g l =
    Consumes (g.R.Source.remaining l.initial.source) (g.R.Source.remaining l.source) l.kept.items
    × (length l.kept.items ≤ most_input + 1)
    × (0 < length l.kept.items → g.R.Source.has_failed l.source ≡ false)
    × (0 < length l.buffer)

abbrev pub decreases-loop-buffer : goal.decreases-loop-buffer
decreases-loop-buffer g l = most_input + 1 - length l.kept.items

use Rattle.std.proofs.Common.{◌<◌, ◌≤◌, ◌^◌, ◌-◌}
use Rattle.sgb_file.specs.inner.Layouts.{LinesSoFar}
use Rattle.sgb_file.specs.inner.ShortLines.{short_stage}
use Rattle.sgb_file.proofs.saving.sections.put_short_records.Given as goal

-- the lines of the records before this one are put together
abbrev pub invariant-loop-k : goal.invariant-loop-k
invariant-loop-k g l =
    (l.fn.from ≤ l.k)
    × LinesSoFar (g.K.RecordKind.lines_from l.graph l.fn.from) (g.K.RecordKind.lines_from l.graph l.k) (short_stage l.fn.lines) (short_stage l.lines)
    × (l.lines.value < 2 ^ 32)

abbrev pub decreases-loop-k : goal.decreases-loop-k
decreases-loop-k g l = g.K.RecordKind.count l.graph - l.k

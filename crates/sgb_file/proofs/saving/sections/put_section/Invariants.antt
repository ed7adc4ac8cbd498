use Rattle.std.proofs.Common.{◌≡◌, ◌-◌, ◌∷◌, []}
use Rattle.sgb_file.specs.inner.Layouts.{LinesSoFar, stage}
use Rattle.sgb_file.proofs.saving.sections.put_section.Given as goal

-- the records from this one on are left
abbrev pub invariant-loop-k : goal.invariant-loop-k
invariant-loop-k g l =
    LinesSoFar (g.K.RecordKind.title ∷ g.K.RecordKind.lines_from l.graph 0) (g.K.RecordKind.lines_from l.graph l.k)
    (stage g.W.Sink.written g.W.Sink.has_failed l.fn.sink l.fn.layout) (stage g.W.Sink.written g.W.Sink.has_failed l.sink l.layout)
    × (l.layout.line ≡ [])

abbrev pub decreases-loop-k : goal.decreases-loop-k
decreases-loop-k g l = g.K.RecordKind.count l.graph - l.k

use Rattle.std.proofs.Common.{length}
use Rattle.sgb_file.specs.inner.Layouts.{stage}
use Rattle.sgb_file.proofs.PlacedPieces.{FilledSoFar}
use Rattle.sgb_file.proofs.saving.layouts.Layout.fill.Given as goal

-- the bytes before the rest were put on lines
abbrev pub invariant-loop-rest : goal.invariant-loop-rest
invariant-loop-rest g l =
    FilledSoFar l.bytes l.rest (stage g.W.Sink.written g.W.Sink.has_failed l.fn.sink l.fn.self)
    (stage g.W.Sink.written g.W.Sink.has_failed l.sink l.self)

abbrev pub decreases-loop-rest : goal.decreases-loop-rest
decreases-loop-rest g l = length l.rest

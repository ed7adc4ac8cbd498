use Rattle.std.proofs.Common.{drop}
use Rattle.sgb_file.specs.inner.Layouts.{LinesSoFar, stage}
use Rattle.sgb_file.specs.Saving.{laid_out, pieces_of}
use Rattle.sgb_file.proofs.FieldTexts.{texts_of}
use Rattle.sgb_file.proofs.saving.fields.put_each_field.Given as goal

-- the lines of the fields from this place on are left
abbrev pub invariant-loop-place : goal.invariant-loop-place
invariant-loop-place g l =
    LinesSoFar (laid_out l.fn.layout.line (pieces_of (texts_of l.fields))) (laid_out l.layout.line (pieces_of (texts_of (drop l.place l.fields))))
    (stage g.W.Sink.written g.W.Sink.has_failed l.fn.sink l.fn.layout) (stage g.W.Sink.written g.W.Sink.has_failed l.sink l.layout)

use Rattle.std.proofs.Common.{◌≡◌, drop}
use Rattle.sgb_file.specs.inner.Layouts.{has_any}
use Rattle.sgb_file.proofs.FieldTexts.{texts_of}
use Rattle.sgb_file.proofs.saving.fields.any_used.Given as goal

-- no field before this one is used
abbrev pub invariant-loop-field : goal.invariant-loop-field
invariant-loop-field l = has_any (texts_of l.fields) ≡ has_any (texts_of (drop l.field-index l.fields))

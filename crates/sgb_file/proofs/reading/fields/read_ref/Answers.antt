use Rattle.std.proofs.Common.{sym}
use Rattle.sgb_file.specs.inner.FieldValues.{ref_of}
use Rattle.sgb_file.proofs.CountedFields.{field_found, field_missing}
use Rattle.sgb_file.proofs.reading.fields.read_ref.Goals as goal

pub returns-in_default-ref_before_comma-clause-found :
    goal.returns-in_default-ref_before_comma-clause-found
returns-in_default-ref_before_comma-clause-found c =
    field_missing _ (ref_of c.args.counts.now.vertices) c.args.lines.now _ c.in-Some.ensures.left c.in-Some.ensures.one (sym c.in_default-ref_before_comma.ensures.value)

pub returns-clause-found : goal.returns-clause-found
returns-clause-found c =
    rw c.skip.ensures
    (field_found _ (ref_of c.args.counts.now.vertices) c.args.lines.now _ _ _ c.in-Some.ensures.left c.in-Some.ensures.one (sym c.in-Some-ref_before_comma.ensures.value) c.in-Some-ref_before_comma.ensures.len)

use Rattle.std.proofs.Common.{sym}
use Rattle.sgb_file.specs.inner.FieldValues.{record_number_of}
use Rattle.sgb_file.proofs.CountedFields.{field_found, field_missing}
use Rattle.sgb_file.proofs.reading.fields.read_record_number.Goals as goal

pub returns-in_default-record_number_before_comma-clause-found :
    goal.returns-in_default-record_number_before_comma-clause-found
returns-in_default-record_number_before_comma-clause-found c =
    field_missing _ (record_number_of c.args.counts.now.arcs) c.args.lines.now _ c.in-Some.ensures.left c.in-Some.ensures.one (sym c.in_default-record_number_before_comma.ensures.value)

pub returns-clause-found : goal.returns-clause-found
returns-clause-found c =
    rw c.skip.ensures
    (field_found _ (record_number_of c.args.counts.now.arcs) c.args.lines.now _ _ _ c.in-Some.ensures.left c.in-Some.ensures.one (sym c.in-Some-record_number_before_comma.ensures.value) c.in-Some-record_number_before_comma.ensures.len)

use Rattle.sgb_vec.proofs.Common.{w64, sym, rules, to_z-of_z}
use Rattle.sgb_file.specs.inner.FieldValues.{integer_of}
use Rattle.sgb_file.proofs.CountedFields.{field_found, field_missing}
use Rattle.sgb_file.proofs.reading.fields.read_integer.Goals as goal

pub returns-in_default-integer_before_comma-clause-found :
    goal.returns-in_default-integer_before_comma-clause-found
returns-in_default-integer_before_comma-clause-found c =
    field_missing _ integer_of c.args.lines.now _ c.in-Some.ensures.left c.in-Some.ensures.one (sym c.in_default-integer_before_comma.ensures.value)

pub returns-clause-found : goal.returns-clause-found
returns-clause-found c =
    rw (to_z-of_z w64 c.in-Some-integer_before_comma.number (search rules), c.skip.ensures)
    (field_found _ integer_of c.args.lines.now _ _ _ c.in-Some.ensures.left c.in-Some.ensures.one (sym c.in-Some-integer_before_comma.ensures.value) c.in-Some-integer_before_comma.ensures.len)

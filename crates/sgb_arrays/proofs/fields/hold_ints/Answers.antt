use Rattle.std.proofs.Common.{◌<◌, length, refl, rules}
use Rattle.sgb_arrays.proofs.FieldValues.{kind_known}
use Rattle.sgb_arrays.proofs.fields.hold_ints.Goals as goal

pub returns-then-field-lt6 : goal.returns-then-field-lt6
returns-then-field-lt6 c =
    let within : c.args.field < length c.args.kinds.now = search rules in
    let (holds, other) = kind_known c.is_int_kind.result c.args.kinds.now c.args.kinds.now c.args.field _ refl c.if-field-lt6.true within c.is_int_kind.ensures in
    record { holds = holds; other = other }

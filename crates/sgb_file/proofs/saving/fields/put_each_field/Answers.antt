use Rattle.sgb_vec.proofs.Common.{arith, ap, ◌+◌, take_rest}
use Rattle.sgb_file.specs.inner.Layouts.{has_any}
use Rattle.sgb_file.proofs.FieldTexts.{texts_of, fields-next, fields-end}
use Rattle.sgb_file.proofs.LaidLines.{lines-none, stopped-on}
use Rattle.sgb_file.proofs.saving.fields.put_each_field.Goals as goal

pub loop-place-init : goal.loop-place-init
loop-place-init g c = lines-none _ _

pub returns-in_err-put_field : goal.returns-in_err-put_field
returns-in_err-put_field g c =
    stopped-on _ _ c.from_residual.result c.from_residual.ensures.1 (fields-next c.args.fields.now c.loop-place.place _ _ _ _ _ _ _ c.loop-place-test.true c.index-fields-place.is (ap (λ fields. has_any (texts_of fields)) (take_rest c.args.fields.now (c.loop-place.place + 1)))
    c.loop-place.invariant c.in_err-put_field.ensures)

pub loop-place-preserved : goal.loop-place-preserved
loop-place-preserved g c =
    fields-next c.args.fields.now c.loop-place.place _ _ _ _ _ _ _ c.loop-place-test.true c.index-fields-place.is (grind (arith, take_rest))
    c.loop-place.invariant c.in_ok-put_field.ensures

pub returns : goal.returns
returns g c =
    fields-end c.args.fields.now c.loop-place.place _ _ _ _ _ (omega (arith, c.loop-place-test.false)) c.loop-place.invariant c.end_line.ensures

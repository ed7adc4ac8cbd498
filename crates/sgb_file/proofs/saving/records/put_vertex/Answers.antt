use Rattle.std.proofs.Common.{ap, refl, true}
use Rattle.sgb_file.specs.Saving.{quoted}
use Rattle.sgb_file.proofs.FieldTexts.{record-cut, record-then, record-stopped}
use Rattle.sgb_file.proofs.LaidLines.{stopped-on}
use Rattle.sgb_file.proofs.saving.records.put_vertex.Goals as goal

pub returns-in_err-put_string : goal.returns-in_err-put_string
returns-in_err-put_string g c =
    stopped-on _ _ c.from_residual.result c.from_residual.ensures.1 (record-cut _ _ _ true _ _ (ap quoted c.bytes.ensures.value) refl c.in_err-put_string.ensures)

pub returns-in_err-put_record_number : goal.returns-in_err-put_record_number
returns-in_err-put_record_number g c =
    stopped-on _ _ c.from_residual-in_err-put_record_number.result c.from_residual-in_err-put_record_number.ensures.1 (record-stopped _ _ _ true _ _ _ (ap quoted c.bytes.ensures.value) refl c.in_ok-put_string.ensures
    (record-cut _ _ _ _ _ _ refl c.any_used.ensures c.in_err-put_record_number.ensures))

pub returns : goal.returns
returns g c =
    record-then _ _ _ true _ _ _ _ (ap quoted c.bytes.ensures.value) refl c.in_ok-put_string.ensures
    (record-then _ _ _ _ _ _ _ _ refl c.any_used.ensures c.in_ok-put_record_number.ensures c.put_fields.ensures)

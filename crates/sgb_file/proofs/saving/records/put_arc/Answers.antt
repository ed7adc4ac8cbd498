use Rattle.sgb_vec.proofs.Common.{refl, true, rules, to_z-of_z}
use Rattle.sgb_file.proofs.FieldTexts.{record-cut, record-then, record-stopped}
use Rattle.sgb_file.proofs.LaidLines.{stopped-on}
use Rattle.sgb_file.proofs.saving.records.put_arc.Goals as goal

pub returns-in_err-put_ref : goal.returns-in_err-put_ref
returns-in_err-put_ref g c =
    stopped-on _ _ c.from_residual.result c.from_residual.ensures.1 (record-cut _ _ _ true _ _ refl refl c.in_err-put_ref.ensures)

pub returns-in_err-put_record_number : goal.returns-in_err-put_record_number
returns-in_err-put_record_number g c =
    stopped-on _ _ c.from_residual-in_err-put_record_number.result c.from_residual-in_err-put_record_number.ensures.1 (record-stopped _ _ _ true _ _ _ refl refl c.in_ok-put_ref.ensures
    (record-cut _ _ _ true _ _ refl refl c.in_err-put_record_number.ensures))

pub returns-in_err-put_integer : goal.returns-in_err-put_integer
returns-in_err-put_integer g c =
    stopped-on _ _ c.from_residual-in_err-put_integer.result c.from_residual-in_err-put_integer.ensures.1 (record-stopped _ _ _ true _ _ _ refl refl c.in_ok-put_ref.ensures
    (record-stopped _ _ _ true _ _ _ refl refl c.in_ok-put_record_number.ensures
    (record-cut _ _ _ _ _ _ (search (rules, to_z-of_z)) c.any_used.ensures c.in_err-put_integer.ensures)))

pub returns : goal.returns
returns g c =
    record-then _ _ _ true _ _ _ _ refl refl c.in_ok-put_ref.ensures
    (record-then _ _ _ true _ _ _ _ refl refl c.in_ok-put_record_number.ensures
    (record-then _ _ _ _ _ _ _ _ (search (rules, to_z-of_z)) c.any_used.ensures c.in_ok-put_integer.ensures c.put_fields.ensures))

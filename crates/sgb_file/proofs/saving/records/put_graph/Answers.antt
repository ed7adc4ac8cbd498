use Rattle.std.proofs.Common.{◌∙◌, ap, refl, true, decimal}
use Rattle.sgb_file.specs.Saving.{quoted}
use Rattle.sgb_file.proofs.FieldTexts.{record-cut, record-then, record-stopped}
use Rattle.sgb_file.proofs.LaidLines.{stopped-on}
use Rattle.sgb_file.proofs.saving.records.put_graph.Goals as goal

pub returns-in_err-put_string : goal.returns-in_err-put_string
returns-in_err-put_string g c =
    let id = ap quoted (c.bytes.ensures.value ∙ c.id.ensures) in
    stopped-on _ _ c.from_residual.result c.from_residual.ensures.1 (record-cut _ _ _ true _ _ id refl c.in_err-put_string.ensures)

pub returns-in_err-put_number : goal.returns-in_err-put_number
returns-in_err-put_number g c =
    let id = ap quoted (c.bytes.ensures.value ∙ c.id.ensures) in
    let n = ap decimal (c.from.ensures ∙ c.n.ensures.count) in
    stopped-on _ _ c.from_residual-in_err-put_number.result c.from_residual-in_err-put_number.ensures.1 (record-stopped _ _ _ true _ _ _ id refl c.in_ok-put_string.ensures
    (record-cut _ _ _ true _ _ n refl c.in_err-put_number.ensures))

pub returns-in_err-put_number-2 : goal.returns-in_err-put_number-2
returns-in_err-put_number-2 g c =
    let id = ap quoted (c.bytes.ensures.value ∙ c.id.ensures) in
    let n = ap decimal (c.from.ensures ∙ c.n.ensures.count) in
    rw (← c.graph_fields-fields.ensures) (stopped-on _ _ c.from_residual-in_err-put_number-2.result c.from_residual-in_err-put_number-2.ensures.1 (record-stopped _ _ _ true _ _ _ id refl c.in_ok-put_string.ensures
    (record-stopped _ _ _ true _ _ _ n refl c.in_ok-put_number.ensures
    (record-cut _ _ _ _ _ _ (ap decimal c.m.ensures) c.any_used.ensures c.in_err-put_number-2.ensures))))

pub returns : goal.returns
returns g c =
    let id = ap quoted (c.bytes.ensures.value ∙ c.id.ensures) in
    let n = ap decimal (c.from.ensures ∙ c.n.ensures.count) in
    rw (← c.graph_fields-fields.ensures) (record-then _ _ _ true _ _ _ _ id refl c.in_ok-put_string.ensures
    (record-then _ _ _ true _ _ _ _ n refl c.in_ok-put_number.ensures
    (record-then _ _ _ _ _ _ _ _ (ap decimal c.m.ensures) c.any_used.ensures c.in_ok-put_number-2.ensures c.put_fields.ensures)))

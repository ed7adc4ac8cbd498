use Rattle.sgb_vec.proofs.Common.{arith, err_from_is_err_and}
use Rattle.sgb_file.proofs.RecordLines.{together-cut}
use Rattle.sgb_file.proofs.saving.sections.put_next.Goals as goal

pub returns-in_err-put_lines-clause-laid : goal.returns-in_err-put_lines-clause-laid
returns-in_err-put_lines-clause-laid g c =
    let p = err_from_is_err_and c.from_residual-in_err-put_lines.result c.from_residual-in_err-put_lines.ensures.1 in
    let put = c.in_err-put_lines.ensures.put in
    rw p.1 (together-cut _ _ c.begin.new.self c.put_short_records-to.new.lines _ _ (grind (arith, c.begin.ensures, c.checksum.ensures)) c.put_short_records-to.ensures.laid put.0 put.1)

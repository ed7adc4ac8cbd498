use Rattle.std.proofs.Common.{refl}
use Rattle.sgb_file.proofs.LaidLines.{lines-further, stopped-after, stopped-on}
use Rattle.sgb_file.proofs.RecordLines.{title-cut, title-laid}
use Rattle.sgb_file.proofs.saving.sections.put_section.Goals as goal

pub returns-in_err-put_all : goal.returns-in_err-put_all
returns-in_err-put_all g c =
    let put = c.in_err-put_all.ensures.put in
    stopped-on _ _ c.from_residual.result c.from_residual.ensures.1 (title-cut g.K.RecordKind.title _ _ _ _ c.title_line.ensures.line put.0 put.1)

pub loop-k-init : goal.loop-k-init
loop-k-init g c =
    (title-laid g.K.RecordKind.title _ _ _ _ c.title_line.ensures.line c.title_line.ensures.star c.in_ok-put_all.ensures.put c.in_ok-put_all.ensures.sound refl, c.requires)

pub returns-in_err-k : goal.returns-in_err-k
returns-in_err-k g c =
    let so_far = c.loop-k.invariant.0 in
    stopped-on _ _ c.from_residual-in_err-k.result c.from_residual-in_err-k.ensures.1 (stopped-after _ so_far.0 _ _ _ _ so_far.1 so_far.2 c.in_err-k.ensures.laid)

pub loop-k-preserved : goal.loop-k-preserved
loop-k-preserved g c =
    (lines-further _ _ _ _ _ _ c.loop-k.invariant.0 c.in_ok-k.ensures.laid.0, c.in_ok-k.ensures.laid.1)

use Rattle.std.proofs.Common.{◌++◌}
use Rattle.sgb_file.proofs.PlacedPieces.{filled-cut, filled-more, filled-stopped, filled-then}
use Rattle.sgb_file.proofs.LaidLines.{stopped-on}
use Rattle.sgb_file.proofs.saving.layouts.Layout.fill_all.Goals as goal

pub returns-in_err-fill : goal.returns-in_err-fill
returns-in_err-fill g c =
    stopped-on _ _ c.from_residual.result c.from_residual.ensures.1 (filled-cut (c.args.front.now ++ c.args.body.now) c.args.back.now _ _ (filled-cut c.args.front.now c.args.body.now _ _ c.in_err-fill.ensures))

pub returns-in_err-fill-2 : goal.returns-in_err-fill-2
returns-in_err-fill-2 g c =
    stopped-on _ _ c.from_residual-in_err-fill-2.result c.from_residual-in_err-fill-2.ensures.1 (filled-cut (c.args.front.now ++ c.args.body.now) c.args.back.now _ _ (filled-stopped c.args.front.now c.args.body.now _ _ _ c.in_ok-fill.ensures c.in_err-fill-2.ensures))

pub returns : goal.returns
returns g c =
    filled-then (c.args.front.now ++ c.args.body.now) c.args.back.now _ _ _ _ (filled-more c.args.front.now c.args.body.now _ _ _ c.in_ok-fill.ensures c.in_ok-fill-2.ensures) c.fill-3.ensures

use Rattle.sgb_file.proofs.PlacedPieces.{placed-cut, placed-then}
use Rattle.sgb_file.proofs.LaidLines.{stopped-on}
use Rattle.sgb_file.proofs.saving.layouts.Layout.place_anew.Goals as goal

pub returns-in_err-make_room : goal.returns-in_err-make_room
returns-in_err-make_room g c =
    stopped-on _ _ c.from_residual.result c.from_residual.ensures.1 (placed-cut _ _ _ c.requires c.in_err-make_room.ensures)

pub returns : goal.returns
returns g c = placed-then _ _ _ _ _ c.requires c.in_ok-make_room.ensures c.fill_all.ensures

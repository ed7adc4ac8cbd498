use Rattle.std.proofs.Common.{◌∙◌, sym, ap, refl, arith}
use Rattle.sgb_file.proofs.PlacedPieces.{placed-here}
use Rattle.sgb_file.proofs.saving.layouts.Layout.place.Goals as goal

pub returns-then-has_room : goal.returns-then-has_room
returns-then-has_room g c =
    placed-here _ _ _ (sym c.has_room.ensures ∙ c.if-has_room.true) (record { written = refl; failed = refl; checksum = ap (λ l. l.checksum) c.self.view_is })
    (grind (arith, c.push_piece.ensures, c.self.view_is))

use Rattle.sgb_vec.proofs.Common.{◌≡◌, [], refl, arith, nil_from_length}
use Rattle.sgb_file.proofs.LaidLines.{laid-none}
use Rattle.sgb_file.proofs.saving.layouts.Layout.make_room.Goals as goal

pub returns-then-len-eq0 : goal.returns-then-len-eq0
returns-then-len-eq0 g c =
    let empty : c.args.self.now.line ≡ [] = nil_from_length _ (grind (arith, c.self.view_is)) in
    rw empty (laid-none _ _ refl refl refl, refl)

use Rattle.std.proofs.Common.{refl}
use Rattle.sgb_file.proofs.LaidLines.{laid-none}
use Rattle.sgb_file.proofs.saving.fields.put_field.Goals as goal

pub returns-in-Nothing : goal.returns-in-Nothing
returns-in-Nothing g c = rw c.in-Nothing.is (laid-none _ _ refl refl refl, refl)

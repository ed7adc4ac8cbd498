use Rattle.std.proofs.Common.{sym}
use Rattle.sgb_vec.proofs.BoxPlaces.{length-box}
use Rattle.sgb_vec.proofs.boxes.BoxFamilyFamily.size.Goals as goal

pub returns : goal.returns
returns c = rw (c.self.invariant.0, c.self.view_is) (sym (length-box c.args.self.now))

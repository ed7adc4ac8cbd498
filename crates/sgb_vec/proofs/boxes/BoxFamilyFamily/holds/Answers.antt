use Rattle.std.proofs.Common.{rules}
use Rattle.sgb_vec.proofs.BoxPlaces.{IsBelow-from_Contains, Contains-from_IsBelow}
use Rattle.sgb_vec.proofs.boxes.BoxFamilyFamily.holds.Goals as goal

pub returns : goal.returns
returns c = search (rules, Contains-from_IsBelow, IsBelow-from_Contains)

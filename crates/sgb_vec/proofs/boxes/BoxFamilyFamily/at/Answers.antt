use Rattle.std.proofs.Common.{rules}
use Rattle.sgb_vec.specs.Boxes.{product_of}
use Rattle.sgb_vec.proofs.BoxPlaces.{length-box}
use Rattle.sgb_vec.proofs.boxes.BoxFamilyFamily.at.Goals as goal

pub returns-then-place-self-clause-none : goal.returns-then-place-self-clause-none
returns-then-place-self-clause-none c = search (rules, length-box, product_of)

use Rattle.std.proofs.Common.{rules}
use Rattle.sgb_vec.specs.Boxes.{product_of}
use Rattle.sgb_vec.proofs.BoxPlaces.{length-box}
use Rattle.sgb_vec.proofs.BoxOrder.{IsFirst-zeros}
use Rattle.sgb_vec.proofs.boxes.BoxFamilyFamily.first.Goals as goal

pub returns-clause-found : goal.returns-clause-found
returns-clause-found c = search (rules, product_of, length-box, IsFirst-zeros)

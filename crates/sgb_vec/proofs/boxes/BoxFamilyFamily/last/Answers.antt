use Rattle.std.proofs.Common.{rules}
use Rattle.sgb_vec.specs.Boxes.{product_of}
use Rattle.sgb_vec.proofs.BoxPlaces.{length-box}
use Rattle.sgb_vec.proofs.BoxPredecessors.{IsFinal-tops, refill-long, sizes_some-product}
use Rattle.sgb_vec.proofs.boxes.BoxFamilyFamily.last.Goals as goal

pub put_tops-requires-clause-some : goal.put_tops-requires-clause-some
put_tops-requires-clause-some c = search (rules, product_of, length-box, sizes_some-product)

pub returns-clause-found : goal.returns-clause-found
returns-clause-found c = search (rules, product_of, length-box, refill-long, IsFinal-tops)

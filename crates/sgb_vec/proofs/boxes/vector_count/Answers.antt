use Rattle.std.proofs.Common.{rules}
use Rattle.sgb_vec.specs.Boxes.{product_of}
use Rattle.sgb_vec.proofs.Products.{product_of-zero, product_of-pos}
use Rattle.sgb_vec.proofs.boxes.vector_count.Goals as goal

pub returns-then-contains : goal.returns-then-contains
returns-then-contains c = search (rules, product_of, product_of-zero)

pub loop-size-init : goal.loop-size-init
loop-size-init c = search (rules, product_of, product_of-pos)

use Rattle.sgb_vec.proofs.Common.{refl, digits}
use Rattle.sgb_ops.proofs.products.ProductType.digit.Goals as goal

pub returns-in-Cartesian : goal.returns-in-Cartesian
unfolding digits
returns-in-Cartesian c = rw c.in-Cartesian.is refl

pub returns-in-Direct : goal.returns-in-Direct
unfolding digits
returns-in-Direct c = rw c.in-Direct.is refl

pub returns-in-Strong : goal.returns-in-Strong
unfolding digits
returns-in-Strong c = rw c.in-Strong.is refl

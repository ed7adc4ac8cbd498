use Rattle.std.proofs.Common.{arith}
use Rattle.sgb_gen.proofs.CommonSizes.{common_of_minima, minima_small}
use Rattle.sgb_gen.proofs.accepted.subsets.common_in_chunk.Goals as goal

pub sum_of-requires : goal.sum_of-requires
sum_of-requires c = rw (c.widened.ensures, c.lesser.ensures) (omega (arith, c.told-u, minima_small c.args.u.now c.args.v.now c.fits-u))

pub returns : goal.returns
returns c = rw (c.sum_of.ensures, c.widened.ensures, c.lesser.ensures) (common_of_minima c.args.u.now c.args.v.now)

use Rattle.sgb_moves.proofs.SignedSteps.{product_fits, product_is}
use Rattle.sgb_gen.proofs.accepted.boards.counts.step.Goals as goal

pub overflow_mul-result : goal.overflow_mul-result
overflow_mul-result c = product_fits c.from.result c.from-2.result c.args.l c.args.t c.ranges.l c.ranges.t c.from.ensures c.from-2.ensures

pub returns : goal.returns
returns c = product_is c.from.result c.from-2.result c.args.l c.args.t c.ranges.l c.ranges.t c.from.ensures c.from-2.ensures

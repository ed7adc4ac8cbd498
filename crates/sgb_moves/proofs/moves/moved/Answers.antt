use Rattle.sgb_moves.proofs.SignedSteps.{product_fits, sum_fits, sum_is}
use Rattle.sgb_moves.proofs.moves.moved.Goals as goal

pub overflow_mul-result : goal.overflow_mul-result
overflow_mul-result c = product_fits c.from-2.result c.from-3.result c.args.l c.args.t c.ranges.l c.ranges.t c.from-2.ensures c.from-3.ensures

pub overflow_add-result : goal.overflow_add-result
overflow_add-result c = sum_fits c.from-2.result c.from-3.result c.args.l c.args.t c.ranges.l c.ranges.t c.from-2.ensures c.from-3.ensures c.from.result c.args.x c.ranges.x c.from.ensures

pub returns : goal.returns
returns c = sum_is c.from-2.result c.from-3.result c.args.l c.args.t c.ranges.l c.ranges.t c.from-2.ensures c.from-3.ensures c.from.result c.args.x c.ranges.x c.from.ensures

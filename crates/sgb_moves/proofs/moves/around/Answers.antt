use Rattle.std.proofs.Common.{w64, arith}
use Rattle.std.proofs.lemmas.Int.{ints, to_z-of_z}
use Rattle.sgb_moves.proofs.SideRests.{rest_fits, rest_is, size_small, size_some}
use Rattle.sgb_moves.proofs.moves.around.Goals as goal

pub overflow_add-y : goal.overflow_add-y
overflow_add-y c = omega (arith, ints)

pub overflow_add-result : goal.overflow_add-result
overflow_add-result c = omega (arith, ints)

pub overflow_sub-y : goal.overflow_sub-y
overflow_sub-y c = omega (arith, ints)

pub overflow_sub-result : goal.overflow_sub-result
overflow_sub-result c = omega (arith, ints)

pub returns-then-y-size-ge0 : goal.returns-then-y-size-ge0
returns-then-y-size-ge0 c = grind (arith, ints)

pub returns-then-y-size-2 : goal.returns-then-y-size-2
returns-then-y-size-2 c = grind (arith, ints)

pub rem_euclid-requires-clause-nonzero : goal.rem_euclid-requires-clause-nonzero
rem_euclid-requires-clause-nonzero c = size_some c.args.size c.from-size.result c.requires c.ranges.size c.from-size.ensures

pub rem_euclid-requires-clause-no_overflow : goal.rem_euclid-requires-clause-no_overflow
rem_euclid-requires-clause-no_overflow c = size_small c.args.size c.from-size.result c.requires c.ranges.size c.from-size.ensures _

pub overflow_cast-result-2 : goal.overflow_cast-result-2
overflow_cast-result-2 c = rest_fits c.args.size c.from-size.result c.requires c.ranges.size c.from-size.ensures _ _ c.rem_euclid.result (to_z-of_z w64 c.args.y c.ranges.y) c.rem_euclid.ensures.value c.rem_euclid.ensures.lower_bound c.rem_euclid.ensures.upper_bound

pub returns : goal.returns
returns c = rest_is c.args.size c.from-size.result c.requires c.ranges.size c.from-size.ensures _ _ c.rem_euclid.result (to_z-of_z w64 c.args.y c.ranges.y) c.rem_euclid.ensures.value c.rem_euclid.ensures.lower_bound c.rem_euclid.ensures.upper_bound

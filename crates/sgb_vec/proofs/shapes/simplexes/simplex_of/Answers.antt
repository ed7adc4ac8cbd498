use Rattle.sgb_vec.proofs.Common.{arith, common_steps}
use Rattle.sgb_vec.proofs.SimplexBounds.{length-zero_after_stop}
use Rattle.sgb_vec.proofs.shapes.simplexes.simplex_of.Goals as goal

pub clamped_parameters-params-requires : goal.clamped_parameters-params-requires
clamped_parameters-params-requires c = grind (arith, common_steps, length-zero_after_stop c.args.entries.now)

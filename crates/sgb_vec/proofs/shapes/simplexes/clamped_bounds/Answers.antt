use Rattle.sgb_vec.proofs.Common.{arith, common_steps}
use Rattle.sgb_vec.proofs.SimplexBounds.{clamped-none, clamped-more}
use Rattle.sgb_vec.proofs.shapes.simplexes.clamped_bounds.Goals as goal

pub loop-place-init : goal.loop-place-init
loop-place-init c = grind (arith, common_steps, clamped-none c.args.n c.args.to_repeat.now)

pub loop-place-preserved : goal.loop-place-preserved
loop-place-preserved c = grind (arith, common_steps, clamped-more c.args.n c.args.to_repeat.now c.loop-place.place)

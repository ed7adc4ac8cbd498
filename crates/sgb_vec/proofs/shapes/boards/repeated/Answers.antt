use Rattle.sgb_vec.proofs.Common.{rules, arith, common_steps}
use Rattle.sgb_vec.proofs.BoardSizes.{repeated-none, repeated-more, has_great_size-repeated, has_great_size-push}
use Rattle.sgb_vec.proofs.shapes.boards.repeated.Goals as goal

pub loop-place-init : goal.loop-place-init
loop-place-init c = grind (arith, common_steps, repeated-none c.args.before.now)

pub returns-in-Err : goal.returns-in-Err
returns-in-Err c = search (rules, has_great_size-repeated)

pub loop-place-preserved : goal.loop-place-preserved
loop-place-preserved c = search (rules, repeated-more, has_great_size-push, common_steps)

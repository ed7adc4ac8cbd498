use Rattle.sgb_vec.proofs.Common.{rules, length-set, drop_more}
use Rattle.sgb_ops.proofs.Marks.{mark_at, mark_at-next}
use Rattle.sgb_ops.proofs.complements.mark_tips.Goals as goal

pub loop-tip-preserved : goal.loop-tip-preserved
loop-tip-preserved c = search (rules, length-set, drop_more, mark_at, mark_at-next)

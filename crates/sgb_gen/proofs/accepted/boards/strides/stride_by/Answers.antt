use Rattle.std.proofs.Common.{rules}
use Rattle.sgb_gen.proofs.StrideTips.{stride_more}
use Rattle.sgb_gen.proofs.accepted.boards.strides.stride_by.Goals as goal

pub loop-k-preserved : goal.loop-k-preserved
loop-k-preserved c = search (rules, stride_more)

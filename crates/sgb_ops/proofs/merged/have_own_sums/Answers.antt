use Rattle.std.proofs.Common.{rules}
use Rattle.sgb_ops.proofs.OwnSums.{HaveOtherSums, HaveOwnSums, own_more}
use Rattle.sgb_ops.proofs.merged.have_own_sums.Goals as goal

pub loop-i-preserved : goal.loop-i-preserved
loop-i-preserved c = search (rules, HaveOtherSums, HaveOwnSums, own_more)

use Rattle.std.proofs.Common.{sym}
use Rattle.sgb_vec.proofs.SumCounts.{count_of_sum-cons}
use Rattle.sgb_vec.proofs.sums.rows.take_greatest_or_zero.Goals as goal

pub returns-then-len-eq0 : goal.returns-then-len-eq0
returns-then-len-eq0 c = λ k. sym (count_of_sum-cons 0 c.args.bounds.now.items k)

use Rattle.std.proofs.Common.{sym, arith}
use Rattle.sgb_vec.proofs.SumCounts.{count_of_sum-few, count_of_sum-far}
use Rattle.sgb_vec.proofs.sums.counts.count_of_one.Goals as goal

pub returns-then-from-total_of-clause-count : goal.returns-then-from-total_of-clause-count
returns-then-from-total_of-clause-count c = sym (count_of_sum-few c.args.bounds.now c.args.total c.requires (omega arith))

pub returns-else-from-total_of-clause-count : goal.returns-else-from-total_of-clause-count
returns-else-from-total_of-clause-count c = sym (count_of_sum-far c.args.bounds.now c.args.total (omega arith))

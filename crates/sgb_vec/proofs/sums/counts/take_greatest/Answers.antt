use Rattle.sgb_vec.proofs.Common.{rules, get_or_default}
use Rattle.sgb_vec.proofs.SumCounts.{count_of_sum-remove}
use Rattle.sgb_vec.proofs.sums.counts.take_greatest.Goals as goal

pub returns-clause-counts : goal.returns-clause-counts
returns-clause-counts c = search (rules, get_or_default, count_of_sum-remove)

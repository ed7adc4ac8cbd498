use Rattle.std.proofs.Common.{arith}
use Rattle.sgb_vec.proofs.SumCounts.{count_of_sum-two}
use Rattle.sgb_vec.proofs.Windows.{window-window_one}
use Rattle.sgb_vec.proofs.sums.counts.pairs.Goals as goal

pub returns-clause-count : goal.returns-clause-count
returns-clause-count c = omega (arith, count_of_sum-two c.args.a c.args.b c.args.sum, window-window_one c.args.a c.args.b c.args.sum)

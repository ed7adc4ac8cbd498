use Rattle.std.proofs.Common.{rules}
use Rattle.sgb_vec.proofs.SumRowLemmas.{sum_fits, sum-take_le, CountsSums-snoc}
use Rattle.sgb_vec.proofs.sums.counts.add_bound.Goals as goal

pub add_up-requires : goal.add_up-requires
add_up-requires c = sum_fits c.args.row.now c.requires.short c.requires.small

pub take_off-requires-clause-rising : goal.take_off-requires-clause-rising
take_off-requires-clause-rising c = search (rules, sum-take_le)

pub returns : goal.returns
returns c = search (rules, CountsSums-snoc)

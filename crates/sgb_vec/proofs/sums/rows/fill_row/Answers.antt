use Rattle.std.proofs.Common.{rules}
use Rattle.sgb_vec.proofs.SumRowLemmas.{CountsSums-start}
use Rattle.sgb_vec.proofs.sums.rows.fill_row.Goals as goal

pub loop-place-init : goal.loop-place-init
loop-place-init c = search (rules, CountsSums-start)

use Rattle.sgb_vec.proofs.Common.{rules, err_from_is_err_and}
use Rattle.sgb_vec.proofs.GreatCounts.{HasGreatSum-three, HasGreatSum-two}
use Rattle.sgb_vec.proofs.sums.counts.count_with_two.Goals as goal

pub returns-then-three_are_great-clause-err : goal.returns-then-three_are_great-clause-err
returns-then-three_are_great-clause-err c = search (rules, HasGreatSum-three)

pub returns-in_err-row-clause-err : goal.returns-in_err-row-clause-err
returns-in_err-row-clause-err c = search (rules, err_from_is_err_and, HasGreatSum-two)

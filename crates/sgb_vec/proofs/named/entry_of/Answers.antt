use Rattle.sgb_vec.proofs.Common.{rules, nat_eq, pointwise, bytes_decides}
use Rattle.sgb_vec.specs.Digits.{leading_number}
use Rattle.sgb_vec.proofs.NamedNumbers.{decimal_is_read_back}
use Rattle.sgb_vec.proofs.named.entry_of.Goals as goal

pub returns-in_err-number-clause-none : goal.returns-in_err-number-clause-none
returns-in_err-number-clause-none c = search (rules, decimal_is_read_back, leading_number)

pub returns-in_default-clause-none : goal.returns-in_default-clause-none
returns-in_default-clause-none c = search (rules, decimal_is_read_back, leading_number)

pub returns-then-ne-clause-none : goal.returns-then-ne-clause-none
returns-then-ne-clause-none c = search (rules, decimal_is_read_back, leading_number, pointwise, nat_eq, bytes_decides)

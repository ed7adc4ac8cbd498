use Rattle.std.proofs.Common.{rules, ok_or}
use Rattle.sgb_expr.proofs.Digits.{number_is_leading}
use Rattle.sgb_expr.proofs.numbers.number.Goals as goal

pub returns-clause-read : goal.returns-clause-read
returns-clause-read c = search (rules, number_is_leading, ok_or)

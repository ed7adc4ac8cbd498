use Rattle.std.proofs.Common.{rules}
use Rattle.sgb_vec.proofs.FewDigits.{more_digits}
use Rattle.sgb_vec.proofs.filled.Filled.push_few_digits.Goals as goal

pub returns-else-number-lt100-clause-text : goal.returns-else-number-lt100-clause-text
returns-else-number-lt100-clause-text g c = search (rules, more_digits)

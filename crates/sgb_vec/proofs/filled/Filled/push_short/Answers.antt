use Rattle.std.proofs.Common.{rules}
use Rattle.sgb_vec.proofs.FewDigits.{one_digit, two_digits}
use Rattle.sgb_vec.proofs.filled.Filled.push_short.Goals as goal
use Rattle.sgb_vec.proofs.filled.Filled.push_short.Goals.{then-number-ge10, else-number-ge10}

pub returns-clause-text : goal.returns-clause-text
returns-clause-text g c = search (rules, then-number-ge10, two_digits, else-number-ge10, one_digit)

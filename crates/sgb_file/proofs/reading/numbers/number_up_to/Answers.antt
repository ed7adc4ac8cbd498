use Rattle.std.proofs.Common.{rules}
use Rattle.sgb_file.proofs.NumberReading.{read_none, read_part, read_whole}
use Rattle.sgb_file.proofs.reading.numbers.number_up_to.Goals as goal

pub returns-in_err-number-clause-value : goal.returns-in_err-number-clause-value
returns-in_err-number-clause-value c = search (rules, read_none)

pub returns-then-is_empty-clause-value : goal.returns-then-is_empty-clause-value
returns-then-is_empty-clause-value c = search (rules, read_whole)

pub returns-else-is_empty-clause-value : goal.returns-else-is_empty-clause-value
returns-else-is_empty-clause-value c = search (rules, read_part)

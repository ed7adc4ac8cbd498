use Rattle.std.proofs.Common.{rules}
use Rattle.sgb_file.proofs.LeftTexts.{line_goes_on}
use Rattle.sgb_file.proofs.reading.separators.pass_line_end.Goals as goal

pub returns-then-not-is_empty-clause-value : goal.returns-then-not-is_empty-clause-value
returns-then-not-is_empty-clause-value c = search (rules, line_goes_on)

pub returns-then-not-is_empty-clause-passed : goal.returns-then-not-is_empty-clause-passed
returns-then-not-is_empty-clause-passed c = search (rules, line_goes_on)

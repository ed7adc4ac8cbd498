use Rattle.std.proofs.Common.{option_map, rules}
use Rattle.sgb_file.specs.inner.LinesLeft.{text_left, next_begun}
use Rattle.sgb_file.proofs.LeftTexts.{next_left}
use Rattle.sgb_file.proofs.Sections.{title_passed, title_missed}
use Rattle.sgb_file.proofs.reading.sections.pass_title.Goals as goal

pub returns-then-ne-clause-passed : goal.returns-then-ne-clause-passed
returns-then-ne-clause-passed c = search (rules, option_map, title_missed)

pub returns-clause-passed : goal.returns-clause-passed
returns-clause-passed c = search (rules, next_begun, next_left, option_map, text_left, title_passed)

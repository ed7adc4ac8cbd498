use Rattle.std.proofs.Common.{rules}
use Rattle.sgb_file.specs.inner.ShortLines.{put_after}
use Rattle.sgb_file.proofs.ShortLines.{two_digits}
use Rattle.sgb_file.proofs.saving.short_lines.ShortLines.push_two.Goals as goal

pub returns-else-number-lt10-clause-put : goal.returns-else-number-lt10-clause-put
returns-else-number-lt10-clause-put c = search (rules, put_after, two_digits)

use Rattle.std.proofs.Common.{rules}
use Rattle.sgb_file.specs.inner.ShortLines.{put_after}
use Rattle.sgb_file.proofs.ShortLines.{pair_put_after}
use Rattle.sgb_file.proofs.saving.short_lines.ShortLines.push_number.Goals as goal

pub returns-else-number-lt10000-clause-put : goal.returns-else-number-lt10000-clause-put
returns-else-number-lt10000-clause-put c = search (rules, pair_put_after, put_after)

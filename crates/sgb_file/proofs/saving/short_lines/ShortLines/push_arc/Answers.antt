use Rattle.sgb_file.proofs.ShortLines.{put-append}
use Rattle.std.proofs.Common.{arith}
use Rattle.sgb_file.specs.inner.ShortLines.{put_after}
use Rattle.sgb_file.proofs.saving.short_lines.ShortLines.push_arc.Goals as goal

pub returns-clause-put : goal.returns-clause-put
returns-clause-put c = grind (arith, put-append, put_after)

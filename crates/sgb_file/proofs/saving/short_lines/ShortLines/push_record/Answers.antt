use Rattle.sgb_file.proofs.ShortLines.{put-append}
use Rattle.std.proofs.Common.{rules}
use Rattle.sgb_file.proofs.saving.short_lines.ShortLines.push_record.Goals as goal

pub returns-clause-put : goal.returns-clause-put
returns-clause-put c = search (rules, put-append)

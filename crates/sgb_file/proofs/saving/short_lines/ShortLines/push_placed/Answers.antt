use Rattle.std.proofs.Common.{rules}
use Rattle.sgb_file.proofs.ShortLines.{byte_put}
use Rattle.sgb_file.proofs.saving.short_lines.ShortLines.push_placed.Goals as goal

pub returns-clause-put : goal.returns-clause-put
returns-clause-put c = search (rules, byte_put)

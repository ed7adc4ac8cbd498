use Rattle.std.proofs.Common.{rules}
use Rattle.sgb_file.proofs.ShortLines.{short-laid, short_length, short_record}
use Rattle.sgb_file.proofs.saving.short_lines.ShortLines.put_arc.Goals as goal

pub returns-clause-laid : goal.returns-clause-laid
returns-clause-laid c = search (rules, short-laid, short_length, short_record)

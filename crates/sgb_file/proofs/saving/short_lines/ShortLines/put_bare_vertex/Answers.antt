use Rattle.std.proofs.Common.{rules}
use Rattle.sgb_file.specs.Saving.{record_number_text}
use Rattle.sgb_file.proofs.ShortLines.{next_length, vertex-laid}
use Rattle.sgb_file.proofs.saving.short_lines.ShortLines.put_bare_vertex.Goals as goal

pub returns-clause-laid : goal.returns-clause-laid
returns-clause-laid c = search (rules, next_length, record_number_text, vertex-laid)

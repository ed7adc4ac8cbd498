use Rattle.std.proofs.Common.{rules}
use Rattle.sgb_file.proofs.LinesLeftLemmas.{whole_is_line, part_is_line}
use Rattle.sgb_file.proofs.reading.lines.first_line.Goals as goal

pub returns-then-end-bytes : goal.returns-then-end-bytes
returns-then-end-bytes c = search (rules, whole_is_line)

pub returns : goal.returns
returns c = search (rules, part_is_line)

use Rattle.std.proofs.Common.{rules, option_map}
use Rattle.sgb_file.proofs.LinesLeftLemmas.{whole_under_way}
use Rattle.sgb_file.proofs.reading.lines.Lines.whole_line.Goals as goal

pub returns-clause-whole : goal.returns-clause-whole
returns-clause-whole c = search (rules, option_map, whole_under_way)

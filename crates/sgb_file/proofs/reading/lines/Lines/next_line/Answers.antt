use Rattle.std.proofs.Common.{rules, option_map}
use Rattle.sgb_file.specs.FileLines.{clean_lines}
use Rattle.sgb_file.proofs.LinesLeftLemmas.{passes_line, passed_line}
use Rattle.sgb_file.proofs.reading.lines.Lines.next_line.Goals as goal

pub begin-requires : goal.begin-requires
begin-requires c = search (rules, clean_lines, option_map, passed_line, passes_line)

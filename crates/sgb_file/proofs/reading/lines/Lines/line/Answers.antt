use Rattle.std.proofs.Common.{rules, option_map}
use Rattle.sgb_file.specs.inner.LinesLeft.{lines_of_text, text_left, lines_still}
use Rattle.sgb_file.proofs.LinesLeftLemmas.{left_in_line, left_lines}
use Rattle.sgb_file.proofs.reading.lines.Lines.line.Goals as goal

pub returns-clause-one : goal.returns-clause-one
returns-clause-one c = search (rules, left_in_line)

pub returns-clause-lines : goal.returns-clause-lines
returns-clause-lines c = search (rules, left_lines, lines_of_text, lines_still, option_map, text_left)

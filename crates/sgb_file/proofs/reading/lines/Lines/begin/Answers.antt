use Rattle.std.proofs.Common.{rules}
use Rattle.sgb_file.specs.FileLines.{clean_lines}
use Rattle.sgb_file.proofs.LineLemmas.{no_bytes}
use Rattle.sgb_file.proofs.LinesLeftLemmas.{no_lines, none_left}
use Rattle.sgb_file.proofs.reading.lines.Lines.begin.Goals as goal

pub invariant_of-result : goal.invariant_of-result
invariant_of-result c = search (rules, clean_lines, no_bytes, no_lines)

pub returns-then-is_empty : goal.returns-then-is_empty
returns-then-is_empty c = search (rules, no_bytes, none_left)

use Rattle.std.proofs.Common.{◌≡◌, length}
use Rattle.sgb_file.specs.FileLines.{without_end_spaces}
use Rattle.sgb_file.proofs.reading.lines.without_end_spaces.Given as goal

abbrev pub invariant-loop-line : goal.invariant-loop-line
invariant-loop-line l = without_end_spaces l.line ≡ without_end_spaces l.fn.line

abbrev pub decreases-loop-line : goal.decreases-loop-line
decreases-loop-line l = length l.line

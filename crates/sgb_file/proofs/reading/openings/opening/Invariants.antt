use Rattle.std.proofs.Common.{◌≡◌, length}
use Rattle.sgb_file.specs.FileLines.{clean_lines}
use Rattle.sgb_file.specs.inner.ReadFiles.{opening_of}
use Rattle.sgb_file.proofs.reading.openings.opening.Given as goal

-- the lines that were passed are no first lines, but may stand before one
abbrev pub invariant-loop-rest : goal.invariant-loop-rest
invariant-loop-rest l = opening_of (clean_lines l.rest) ≡ opening_of (clean_lines l.fn.bytes)

abbrev pub decreases-loop-rest : goal.decreases-loop-rest
decreases-loop-rest l = length (clean_lines l.rest)

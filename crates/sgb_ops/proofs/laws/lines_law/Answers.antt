use Rattle.sgb_ops.proofs.EdgeLines.{edges_are_lines}
use Rattle.sgb_ops.proofs.laws.lines_law.Goals as goal

pub returns : goal.returns
returns c = edges_are_lines

use Rattle.std.proofs.Common.{◌≡◌, ◌++◌}
use Rattle.sgb_ops.specs.Lines.{lines_of_graph}
use Rattle.sgb_ops.proofs.LineEvents.{lines_below}
use Rattle.sgb_ops.proofs.line_graphs.line.lines_of_graph.Given as goal

-- with the lines of the vertices that are left, they are all
abbrev pub invariant-loop-v : goal.invariant-loop-v
invariant-loop-v l = l.lines.items ++ lines_below l.graph l.directed l.v ≡ lines_of_graph l.graph l.directed

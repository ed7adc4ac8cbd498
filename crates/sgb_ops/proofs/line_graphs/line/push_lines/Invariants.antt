use Rattle.std.proofs.Common.{◌≡◌, ◌++◌, drop, map}
use Rattle.sgb_ops.specs.inner.Lines.{line_of}
use Rattle.sgb_ops.proofs.line_graphs.line.push_lines.Given as goal

-- with the lines of the arcs that are to come, they are all
abbrev pub invariant-loop-arc : goal.invariant-loop-arc
invariant-loop-arc l = l.lines.items ++ map (line_of l.v) (drop l.arc-index l.arcs) ≡ l.fn.lines.items ++ map (line_of l.v) l.arcs

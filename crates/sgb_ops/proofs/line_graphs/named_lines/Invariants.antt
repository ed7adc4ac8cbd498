use Rattle.std.proofs.Common.{◌≡◌, ◌++◌, drop}
use Rattle.sgb_ops.specs.inner.Lines.{names_of_lines}
use Rattle.sgb_ops.specs.inner.Sources.{names_held}
use Rattle.sgb_ops.proofs.line_graphs.named_lines.Given as goal

-- with the names of the lines that are left, they are all
abbrev pub invariant-loop-line : goal.invariant-loop-line
invariant-loop-line l = l.names ++ names_of_lines (names_held l.ends) l.directed (drop l.line-index l.lines) ≡ names_of_lines (names_held l.ends) l.directed l.lines

use Rattle.std.proofs.Common.{◌≡◌, length}
use Rattle.sgb_ops.proofs.line_graphs.edges.records_of_edges.Given as goal

-- there is a count for each vertex
abbrev pub invariant-loop-line : goal.invariant-loop-line
invariant-loop-line l = length l.counts.items ≡ l.n

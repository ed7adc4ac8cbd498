use Rattle.sgb_ops.proofs.LineRuns.{EndsFrom}
use Rattle.sgb_ops.proofs.line_graphs.arcs.run_ends.Given as goal

-- before vertex w stands how many lines begin there, and from it on how many begin there or later
abbrev pub invariant-loop-w : goal.invariant-loop-w
invariant-loop-w l = EndsFrom l.n l.lines l.ends.items l.w

use Rattle.sgb_vec.proofs.Common.{◌≡◌, drop, list_any, enumerate_from}
use Rattle.sgb_ops.specs.inner.Parts.{has_loop_inside, has_loops_inside}
use Rattle.sgb_ops.proofs.induced_graphs.parts.has_loops_inside.Given as goal

-- such a vertex is v or comes after it, if there is one
abbrev pub invariant-loop-v : goal.invariant-loop-v
invariant-loop-v l =
    list_any (λ p. has_loop_inside l.graph l.directed p.0 p.1) (enumerate_from l.v (drop l.v l.entries))
    ≡ has_loops_inside l.graph l.entries l.directed

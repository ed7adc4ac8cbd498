use Rattle.std.proofs.Common.{map}
use Rattle.sgb.proofs.Named.{NoneBefore}
use Rattle.sgb.proofs.writing.vertices.vertex_named.Given as goal

abbrev pub invariant-loop-v : goal.invariant-loop-v
invariant-loop-v l = NoneBefore (map (λ x. x.name) l.graph.vertices) l.name l.v

use Rattle.std.proofs.Common.{◌≡◌, take}
use Rattle.sgb_graph.specs.Vertices.{names_of}
use Rattle.sgb_ops.proofs.operands.names_of.Given as goal

-- the names of the vertices before v
abbrev pub invariant-loop-v : goal.invariant-loop-v
invariant-loop-v l = l.names ≡ take l.v (names_of l.graph)

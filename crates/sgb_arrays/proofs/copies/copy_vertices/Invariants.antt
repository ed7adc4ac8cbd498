use Rattle.std.proofs.Common.{◌≡◌, take}
use Rattle.sgb_arrays.specs.inner.CopiedParts.{with_vertices}
use Rattle.sgb_arrays.proofs.copies.copy_vertices.Given as goal

-- those before this one are there
abbrev pub invariant-loop-v : goal.invariant-loop-v
invariant-loop-v l = l.parts ≡ with_vertices (take l.v l.graph.vertices) l.fn.parts

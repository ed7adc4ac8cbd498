use Rattle.std.proofs.Common.{◌≡◌, ◌*◌, ◌<◌, ◌≤◌, drop}
use Rattle.sgb_vec.specs.Limits.{most_vertices}
use Rattle.sgb_vec.specs.Boxes.{product_of}
use Rattle.sgb_vec.proofs.boxes.vector_count.Given as goal

-- the product so far, times that of the sizes that are left, is the whole product
abbrev pub invariant-loop-size : goal.invariant-loop-size
invariant-loop-size l = (l.product * product_of (drop l.size-index l.sizes) ≡ product_of l.sizes) × (l.product ≤ most_vertices) × (0 < product_of l.sizes)

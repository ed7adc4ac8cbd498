use Rattle.std.proofs.Common.{◌≡◌, ◌++◌, drop}
use Rattle.sgb_ops.specs.inner.Pairs.{paired_names}
use Rattle.sgb_ops.specs.inner.Sources.{names_held}
use Rattle.sgb_ops.proofs.products.paired_names.Given as goal

-- with the names of the pairs of the vertices from x on, they are all
abbrev pub invariant-loop-x : goal.invariant-loop-x
invariant-loop-x l =
    l.names ++ paired_names (drop l.x (names_held l.first)) (names_held l.second) ≡ paired_names (names_held l.first) (names_held l.second)

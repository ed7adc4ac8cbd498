use Rattle.std.proofs.Common.{◌≡◌, ◌++◌, map, drop}
use Rattle.sgb_ops.specs.inner.Compounds.{begun_name}
use Rattle.sgb_ops.specs.inner.Sources.{names_held}
use Rattle.sgb_ops.proofs.operands.push_begun_names.Given as goal

-- with the names from number w on, they are all
abbrev pub invariant-loop-w : goal.invariant-loop-w
invariant-loop-w l =
    l.names ++ map (begun_name l.start) (drop l.w (names_held l.others))
    ≡ l.fn.names ++ map (begun_name l.start) (names_held l.others)

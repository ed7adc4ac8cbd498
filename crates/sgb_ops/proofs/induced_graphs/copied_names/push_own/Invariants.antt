use Rattle.std.proofs.Common.{◌≡◌, ◌++◌, drop}
use Rattle.sgb_ops.specs.inner.Entries.{own_names}
use Rattle.sgb_ops.specs.inner.Sources.{names_held}
use Rattle.sgb_ops.proofs.induced_graphs.copied_names.push_own.Given as goal

-- with the names by the entries that are left, they are all
abbrev pub invariant-loop-v : goal.invariant-loop-v
invariant-loop-v l =
    l.names ++ own_names (drop l.v (names_held l.held)) (drop l.v l.entries) ≡ l.fn.names ++ own_names (names_held l.held) l.entries

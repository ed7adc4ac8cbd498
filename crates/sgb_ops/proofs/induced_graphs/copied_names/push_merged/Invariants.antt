use Rattle.sgb_vec.proofs.Common.{◌≡◌, ◌++◌, map, range_with_len}
use Rattle.sgb_ops.specs.inner.Compounds.{merged_name}
use Rattle.sgb_ops.proofs.induced_graphs.copied_names.push_merged.Given as goal

-- the names with the numbers so far
abbrev pub invariant-loop-k : goal.invariant-loop-k
invariant-loop-k l = l.names ≡ l.fn.names ++ map merged_name (range_with_len 1 l.k)

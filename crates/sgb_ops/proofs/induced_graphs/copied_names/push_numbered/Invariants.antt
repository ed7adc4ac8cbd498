use Rattle.sgb_vec.proofs.Common.{◌≡◌, ◌++◌, map, range_with_len}
use Rattle.sgb_ops.specs.inner.Compounds.{numbered_name}
use Rattle.sgb_ops.proofs.induced_graphs.copied_names.push_numbered.Given as goal

-- the names with the numbers so far
abbrev pub invariant-loop-k : goal.invariant-loop-k
invariant-loop-k l = l.names ≡ l.fn.names ++ map (numbered_name l.name) (range_with_len 0 l.k)

use Rattle.std.proofs.Common.{◌≡◌, take, map, length}
use Rattle.sgb_graph.specs.Columns.{util_seen}
use Rattle.sgb_arrays.proofs.copies.copy_fields.Given as goal

-- the values before this place stand
abbrev pub invariant-loop-k : goal.invariant-loop-k
invariant-loop-k l = (take l.k l.fields ≡ map util_seen (take l.k l.seen)) × (length l.fields ≡ 6)

use Rattle.std.proofs.Common.{◌≡◌, ◌+◌, drop}
use Rattle.sgb_arrays.specs.Runs.{parts_of, part_starts}
use Rattle.sgb_arrays.specs.inner.VectorNames.{name_there}
use Rattle.sgb_arrays.proofs.run_names.put_names.Given as goal

-- the names of the first vectors are put, and the others are left
abbrev pub invariant-loop-k : goal.invariant-loop-k
invariant-loop-k g l = record {
  starts : l.names.starts.items ≡ part_starts (name_there (g.F.Family.members l.family)) l.first l._k;
  bytes : l.names.bytes.items ≡ parts_of (name_there (g.F.Family.members l.family)) l.first l._k;
  left : l.left ≡ drop (l.first + l._k) (g.F.Family.members l.family);
}

use Rattle.std.proofs.Common.{◌≡◌, ◌≤◌, ◌+◌, ◌*◌, ◌^◌, drop, length}
use Rattle.sgb_arrays.specs.Runs.{parts_of}
use Rattle.sgb_arrays.specs.inner.VectorNames.{name_there}
use Rattle.sgb_arrays.proofs.run_names.count_bytes.Given as goal

-- the bytes of the first names are counted, and the other vectors are left
abbrev pub invariant-loop-k : goal.invariant-loop-k
invariant-loop-k g l = record {
  counted : l.bytes ≡ length (parts_of (name_there (g.F.Family.members l.family)) l.first l._k);
  few : l.bytes ≤ l._k * 2 ^ 12;
  left : l.left ≡ drop (l.first + l._k) (g.F.Family.members l.family);
}

use Rattle.std.proofs.Common.{◌≡◌, ◌+◌, drop, length, map, pos, take}
use Rattle.std.specs.Prelude.{slice_index}
use Rattle.sgb_arrays.specs.inner.Puts.{put_from}
use Rattle.sgb_arrays.proofs.fields.put_members.Given as goal

-- the entries of the vectors from this place of the run on are still to be put
abbrev pub invariant-loop-k : goal.invariant-loop-k
invariant-loop-k g l = record {
  ints : put_from l.k (map (λ x. pos (slice_index x l.entry)) (drop l.k (take l.count (drop l.first (g.F.Family.members l.family))))) l.values
      ≡ put_from 0 (map (λ x. pos (slice_index x l.entry)) (take l.count (drop l.first (g.F.Family.members l.family)))) l.fn.values;
  places : length l.values ≡ length l.fn.values;
  left : l.left ≡ drop (l.first + l.k) (g.F.Family.members l.family);
}

use Rattle.std.proofs.Common.{◌≡◌, drop, length, map, take}
use Rattle.sgb_arrays.specs.inner.Fields.{int_at}
use Rattle.sgb_arrays.specs.inner.Puts.{put_from}
use Rattle.sgb_arrays.proofs.fields.put_ints.Given as goal

-- the integers of the vertices from this place of the run on are still to be put
abbrev pub invariant-loop-k : goal.invariant-loop-k
invariant-loop-k l = record {
  ints : put_from l.k (map (int_at l.field) (drop l.k (take l.count (drop l.first l.graph.vertices)))) l.values
      ≡ put_from 0 (map (int_at l.field) (take l.count (drop l.first l.graph.vertices))) l.fn.values;
  places : length l.values ≡ length l.fn.values;
}

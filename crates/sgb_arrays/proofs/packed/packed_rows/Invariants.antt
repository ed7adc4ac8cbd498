use Rattle.std.proofs.Common.{◌≡◌, map}
use Rattle.sgb_graph.specs.Graphs.{chain_of}
use Rattle.sgb_arrays.specs.Runs.{part_starts, parts_of}
use Rattle.sgb_arrays.specs.inner.Packed.{lengths_kept}
use Rattle.sgb_arrays.proofs.packed.packed_rows.Given as goal

-- the lists of the vertices before this one are put
abbrev pub invariant-loop-v : goal.invariant-loop-v
invariant-loop-v l = record {
  starts : l.rows.starts.items ≡ part_starts (chain_of l.graph) 0 l.v;
  tips : l.rows.tips.items ≡ map (λ k. k.tip) (parts_of (chain_of l.graph) 0 l.v);
  lengths : lengths_kept l.rows.lengths ≡ map (λ k. k.len) (parts_of (chain_of l.graph) 0 l.v);
}

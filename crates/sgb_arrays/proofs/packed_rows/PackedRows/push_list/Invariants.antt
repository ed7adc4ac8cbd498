use Rattle.std.proofs.Common.{◌≡◌, ◌++◌, map}
use Rattle.sgb_graph.specs.Graphs.{chain_of}
use Rattle.sgb_arrays.specs.inner.Packed.{lengths_kept}
use Rattle.sgb_arrays.proofs.packed_rows.PackedRows.push_list.Given as goal

-- the arcs to come are still to be put
abbrev pub invariant-loop-link : goal.invariant-loop-link
invariant-loop-link l = record {
  starts : l.self.starts.items ≡ l.fn.self.starts.items;
  tips : l.self.tips.items ++ map (λ k. k.tip) l.link-iterator ≡ l.fn.self.tips.items ++ map (λ k. k.tip) (chain_of l.graph l.v);
  lengths : lengths_kept l.self.lengths ++ map (λ k. k.len) l.link-iterator ≡ lengths_kept l.fn.self.lengths ++ map (λ k. k.len) (chain_of l.graph l.v);
}

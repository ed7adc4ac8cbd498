use Rattle.std.proofs.Common.{◌≡◌, ◌+◌, map, length}
use Rattle.sgb_graph.specs.Graphs.{chain_of}
use Rattle.sgb_arrays.specs.inner.Puts.{put_from}
use Rattle.sgb_arrays.proofs.graph_rows.put_list_lengths.Given as goal

-- the arcs to come are still to be put
abbrev pub invariant-loop-link : goal.invariant-loop-link
invariant-loop-link l = record {
  lengths : put_from l.place (map (λ k. k.len) l.link-iterator) l.lengths ≡ put_from l.at (map (λ k. k.len) (chain_of l.graph l.v)) l.fn.lengths;
  end : l.place + length l.link-iterator ≡ l.at + length (chain_of l.graph l.v);
  places : length l.lengths ≡ length l.fn.lengths;
}

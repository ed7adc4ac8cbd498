use Rattle.std.proofs.Common.{◌≡◌, ◌+◌, map, length}
use Rattle.sgb_graph.specs.Graphs.{chain_of}
use Rattle.sgb_arrays.specs.inner.Puts.{put_from}
use Rattle.sgb_arrays.proofs.graph_rows.put_list_tips.Given as goal

-- the arcs to come are still to be put
abbrev pub invariant-loop-link : goal.invariant-loop-link
invariant-loop-link l = record {
  tips : put_from l.place (map (λ k. k.tip) l.link-iterator) l.tips ≡ put_from l.at (map (λ k. k.tip) (chain_of l.graph l.v)) l.fn.tips;
  end : l.place + length l.link-iterator ≡ l.at + length (chain_of l.graph l.v);
  places : length l.tips ≡ length l.fn.tips;
}

use Rattle.std.proofs.Common.{◌≡◌, ◌+◌, map, length}
use Rattle.sgb_graph.specs.Graphs.{chain_of}
use Rattle.sgb_arrays.specs.Runs.{parts_of}
use Rattle.sgb_arrays.specs.inner.PartsLeft.{parts_left}
use Rattle.sgb_arrays.specs.inner.Puts.{put_from}
use Rattle.sgb_arrays.proofs.graph_rows.put_lengths.Given as goal

-- the lists of the vertices from this place of the run on are still to be put
abbrev pub invariant-loop-k : goal.invariant-loop-k
invariant-loop-k l = record {
  lengths : put_from l.at (map (λ r. r.len) (parts_left (λ k. chain_of l.graph (l.first + k)) l.count l.k)) l.lengths ≡ put_from 0 (map (λ r. r.len) (parts_of (λ k. chain_of l.graph (l.first + k)) 0 l.count)) l.fn.lengths;
  end : l.at + length (parts_left (λ k. chain_of l.graph (l.first + k)) l.count l.k) ≡ length (parts_of (λ k. chain_of l.graph (l.first + k)) 0 l.count);
  places : length l.lengths ≡ length l.fn.lengths;
}

use Rattle.std.proofs.Common.{◌≡◌, ◌+◌, length}
use Rattle.sgb_arrays.specs.Runs.{part_starts, parts_of}
use Rattle.sgb_graph.specs.Vertices.{name_at}
use Rattle.sgb_arrays.specs.inner.PartsLeft.{parts_left, starts_left}
use Rattle.sgb_arrays.specs.inner.Puts.{put_from}
use Rattle.sgb_arrays.proofs.graph_names.put_names.Given as goal

-- the names of the vertices from this place of the run on are still to be put
abbrev pub invariant-loop-k : goal.invariant-loop-k
invariant-loop-k l = record {
  starts : put_from l.k (starts_left (λ k. name_at l.graph (l.first + k)) l.count l.k l.at) l.starts ≡ put_from 0 (part_starts (λ k. name_at l.graph (l.first + k)) 0 l.count) l.fn.starts;
  bytes : put_from l.at (parts_left (λ k. name_at l.graph (l.first + k)) l.count l.k) l.bytes ≡ put_from 0 (parts_of (λ k. name_at l.graph (l.first + k)) 0 l.count) l.fn.bytes;
  end : l.at + length (parts_left (λ k. name_at l.graph (l.first + k)) l.count l.k) ≡ length (parts_of (λ k. name_at l.graph (l.first + k)) 0 l.count);
  start_places : length l.starts ≡ length l.fn.starts;
  byte_places : length l.bytes ≡ length l.fn.bytes;
}

use Rattle.std.proofs.Common.{◌≡◌, ◌≤◌, ◌+◌, ◌*◌, length}
use Rattle.sgb_arrays.specs.Runs.{parts_of}
use Rattle.sgb_graph.specs.Vertices.{name_at}
use Rattle.sgb_arrays.specs.inner.PartsLeft.{parts_left}
use Rattle.sgb_arrays.proofs.graph_names.count_bytes.Given as goal

-- the names of the vertices from this place of the run on are still to be counted
abbrev pub invariant-loop-k : goal.invariant-loop-k
invariant-loop-k l = record {
  count : l.bytes + length (parts_left (λ k. name_at l.graph (l.first + k)) l.count l.k) ≡ length (parts_of (λ k. name_at l.graph (l.first + k)) 0 l.count);
  few : l.bytes ≤ l.k * 4096;
}

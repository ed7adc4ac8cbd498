use Rattle.std.proofs.Common.{◌≡◌, ◌≤◌, ◌+◌, ◌*◌, ◌^◌, length}
use Rattle.sgb_graph.specs.Graphs.{chain_of}
use Rattle.sgb_arrays.specs.Runs.{parts_of}
use Rattle.sgb_arrays.specs.inner.PartsLeft.{parts_left}
use Rattle.sgb_arrays.specs.inner.Sizes.{AreSizesFrom}
use Rattle.sgb_arrays.proofs.graph_rows.count_arcs.Given as goal

-- the lists of the vertices from this place of the run on are still to be counted
abbrev pub invariant-loop-k : goal.invariant-loop-k
invariant-loop-k l = record {
  count : l.arcs + length (parts_left (λ k. chain_of l.graph (l.first + k)) l.count l.k) ≡ length (parts_of (λ k. chain_of l.graph (l.first + k)) 0 l.count);
  few : l.arcs ≤ l.k * 2 ^ 64;
  sizes : AreSizesFrom l.graph l.sizes.first l.sizes.known;
  after : l.sizes.first ≤ l.first + l.k;
  before : l.first + l.k ≤ l.sizes.first + 8;
}

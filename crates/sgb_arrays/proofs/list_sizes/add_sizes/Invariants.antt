use Rattle.std.proofs.Common.{◌≡◌, ◌≤◌, ◌+◌, ◌*◌, ◌^◌, length}
use Rattle.sgb_graph.specs.Graphs.{chain_of}
use Rattle.sgb_arrays.specs.Runs.{parts_of}
use Rattle.sgb_arrays.specs.inner.PartsLeft.{parts_left}
use Rattle.sgb_arrays.proofs.list_sizes.add_sizes.Given as goal

-- the lists of the vertices from this place of the run on are still to be counted
abbrev pub invariant-loop-k : goal.invariant-loop-k
invariant-loop-k l = record {
  count : l.arcs + length (parts_left (λ k. chain_of l.graph (l.first + k)) l.count l.k) ≡ length (parts_of (λ k. chain_of l.graph (l.first + k)) 0 l.count);
  few : l.arcs ≤ l.k * 2 ^ 64;
}

use Rattle.std.proofs.Common.{◌≡◌, ◌≤◌, ◌+◌, length}
use Rattle.sgb_graph.specs.Graphs.{chain_of}
use Rattle.sgb_arrays.proofs.graph_rows.degree.Given as goal

-- the arcs to come are still to be counted
abbrev pub invariant-loop-link : goal.invariant-loop-link
invariant-loop-link l = record {
  count : l.count + length l._link-iterator ≡ length (chain_of l.graph l.v);
  few : length (chain_of l.graph l.v) ≤ l.most;
}

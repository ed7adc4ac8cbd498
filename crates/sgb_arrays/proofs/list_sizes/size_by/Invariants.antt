use Rattle.std.proofs.Common.{◌≡◌, ◌≤◌, ◌+◌, length}
use Rattle.sgb_graph.specs.Graphs.{chain_of}
use Rattle.sgb_arrays.proofs.SharedLists.{AreOnWay}
use Rattle.sgb_arrays.proofs.list_sizes.size_by.Given as goal

-- the arcs to come are the rest of the list, and still to be counted
abbrev pub invariant-loop-link : goal.invariant-loop-link
invariant-loop-link l = record {
  count : l.size + length l.link-iterator ≡ length (chain_of l.graph l.v);
  few : length (chain_of l.graph l.v) ≤ l.most;
  way : AreOnWay l.graph.records l.link-iterator;
}

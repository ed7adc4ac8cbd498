use Rattle.std.proofs.Common.{◌≡◌, ℕ, ◌+◌, ◌<◌, length}
use Rattle.std.specs.Prelude.{slice_index}
use Rattle.sgb_graph.specs.Graphs.{chain_of}
use Rattle.sgb_arrays.proofs.graph_rows.last_sizes.Given as goal

-- the lists of the vertices before this one are counted
abbrev pub invariant-loop-u : goal.invariant-loop-u
invariant-loop-u l = record {
  eight : length l.sizes ≡ 8;
  known : (k : ℕ) → k < 8 → l.v + k < l.u → slice_index l.sizes k ≡ length (chain_of l.graph (l.v + k));
}

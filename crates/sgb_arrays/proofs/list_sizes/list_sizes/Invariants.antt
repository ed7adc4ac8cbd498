use Rattle.std.proofs.Common.{◌≡◌, ◌<◌, ℕ, length}
use Rattle.std.specs.Prelude.{slice_index}
use Rattle.sgb_graph.specs.Graphs.{chain_of}
use Rattle.sgb_arrays.specs.inner.Sizes.{AreKnown}
use Rattle.sgb_arrays.proofs.list_sizes.list_sizes.Given as goal

-- the lists of the vertices before this one are counted
abbrev pub invariant-loop-v : goal.invariant-loop-v
invariant-loop-v l = record {
  so_far : length l.sizes.items ≡ l.v;
  sizes : (u : ℕ) → u < l.v → slice_index l.sizes.items u ≡ length (chain_of l.graph u);
  known : AreKnown l.graph.records l.known.items;
}

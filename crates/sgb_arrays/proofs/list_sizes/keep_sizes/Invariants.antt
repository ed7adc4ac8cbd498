use Rattle.std.proofs.Common.{◌≡◌, length}
use Rattle.sgb_arrays.specs.inner.Sizes.{AreKnown}
use Rattle.sgb_arrays.proofs.SharedLists.{AreOnWay}
use Rattle.sgb_arrays.proofs.list_sizes.keep_sizes.Given as goal

-- the arcs to come are the rest of the list
abbrev pub invariant-loop-link : goal.invariant-loop-link
invariant-loop-link l = record {
  left : l.left ≡ length l.link-iterator;
  way : AreOnWay l.graph.records l.link-iterator;
  known : AreKnown l.graph.records l.known;
}

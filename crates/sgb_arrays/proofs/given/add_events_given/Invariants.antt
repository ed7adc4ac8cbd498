use Rattle.std.proofs.Common.{◌≡◌, map, length}
use Rattle.std.specs.List.{range_with_len}
use Rattle.sgb_graph.specs.Growth.{HasPlainArcs, with_events}
use Rattle.sgb_arrays.specs.Given.{event_given}
use Rattle.sgb_arrays.proofs.given.add_events_given.Given as goal

-- those before this place are there
abbrev pub invariant-loop-k : goal.invariant-loop-k
invariant-loop-k l = record {
  added : l.graph ≡ with_events l.directed l.fn.graph (map (event_given l.from l.to l.lengths) (range_with_len 0 l.k));
  size : length l.graph.vertices ≡ length l.fn.graph.vertices;
  plain : HasPlainArcs l.graph;
}

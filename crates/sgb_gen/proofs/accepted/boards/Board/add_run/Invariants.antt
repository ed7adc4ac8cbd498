use Rattle.std.proofs.Common.{◌+◌, ◌-◌, map}
use Rattle.std.specs.List.{range_with_len}
use Rattle.sgb_graph.proofs.AddedEvents.{AddsUpTo}
use Rattle.sgb_gen.specs.inner.StridedMoves.{event_of_stride, events_of_stride}
use Rattle.sgb_gen.proofs.accepted.boards.Board.add_run.Given as goal

-- the moves of the greater lengths are still to come
abbrev pub invariant-loop-shorter : goal.invariant-loop-shorter
invariant-loop-shorter l =
    AddsUpTo l.self.directed l.fn.graph l.graph (map (event_of_stride l.u l.places) (range_with_len (l.shorter + 1) (l.farthest - l.shorter))) (events_of_stride l.u l.places l.farthest)

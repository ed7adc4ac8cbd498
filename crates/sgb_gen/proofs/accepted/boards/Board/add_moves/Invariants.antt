use Rattle.std.proofs.Common.{◌+◌}
use Rattle.sgb_graph.proofs.AddedEvents.{AddsUpTo}
use Rattle.sgb_gen.proofs.BoardEvents.{events_from, events_left}
use Rattle.sgb_gen.proofs.accepted.boards.Board.add_moves.Given as goal

-- the moves of the lengths from this one on are still to come
abbrev pub invariant-loop-shorter : goal.invariant-loop-shorter
invariant-loop-shorter l =
    AddsUpTo l.self.directed l.fn.graph l.graph (events_left l.self l.t l.x (l.shorter + 1)) (events_from l.self l.t l.x)

use Rattle.std.proofs.Common.{◌≡◌, drop}
use Rattle.std.specs.List.{flat_map}
use Rattle.sgb_vec.specs.Boxes.{box}
use Rattle.sgb_graph.proofs.AddedEvents.{AddsUpTo}
use Rattle.sgb_gen.proofs.BoardEvents.{events_by, events_from}
use Rattle.sgb_gen.proofs.accepted.boards.Board.add_moves_by.Given as goal

-- the moves of the vectors from number u on are still to come
abbrev pub invariant-loop-u : goal.invariant-loop-u
invariant-loop-u l =
    (l.left ≡ drop l.u (box l.self.sizes))
    × AddsUpTo l.self.directed l.fn.graph l.graph (flat_map (events_from l.self l.t) l.left) (events_by l.self l.t)

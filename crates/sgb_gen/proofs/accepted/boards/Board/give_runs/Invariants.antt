use Rattle.std.proofs.Common.{take}
use Rattle.sgb_vec.specs.Boxes.{box}
use Rattle.sgb_gen.specs.Boards.{moves_of_board}
use Rattle.sgb_gen.specs.LocalLists.{list_at}
use Rattle.sgb_gen.specs.inner.StraightLists.{arcs_by_all}
use Rattle.sgb_gen.proofs.ArcsInTurn.{TakenSoFar}
use Rattle.sgb_gen.proofs.accepted.boards.Board.give_runs.Given as goal

-- the arcs by the displacements before this one are still to come
abbrev pub invariant-loop-k : goal.invariant-loop-k
invariant-loop-k g l =
    TakenSoFar (g.K.ArcSink.took l.sink) (list_at l.self.directed (box l.self.sizes) (moves_of_board l.self) l.x) (arcs_by_all l.self l.x (take l.k l.table)) l.fn.room l.fn.out l.room l.out
    × g.K.ArcSink.ready l.sink l.room l.out

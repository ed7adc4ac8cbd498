use Rattle.std.proofs.Common.{◌≡◌, ◌≤◌, length, nat_abs}
use Rattle.std.specs.List.{All}
use Rattle.sgb_vec.specs.Boxes.{box}
use Rattle.sgb_gen.specs.Boards.{moves_of_board}
use Rattle.sgb_moves.specs.Limits.{most_piece}
use Rattle.sgb_gen.specs.LocalLists.{list_at}
use Rattle.sgb_gen.specs.inner.StraightLists.{arcs_by_all}
use Rattle.sgb_gen.proofs.ArcsInTurn.{TakenSoFar}
use Rattle.sgb_gen.proofs.accepted.boards.Board.give_walked.Given as goal

-- the arcs by the displacements that are left are still to come
abbrev pub invariant-loop-t : goal.invariant-loop-t
invariant-loop-t g l =
    All (λ t. length t ≡ length l.self.sizes) l.left
    × All (λ t. All (λ e. nat_abs e ≤ most_piece) t) l.left
    × TakenSoFar (g.K.ArcSink.took l.sink) (list_at l.self.directed (box l.self.sizes) (moves_of_board l.self) l.x) (arcs_by_all l.self l.x l.left) l.fn.room l.fn.out l.room l.out
    × g.K.ArcSink.ready l.sink l.room l.out

-- each turn leaves out one displacement
abbrev pub decreases-loop-t : goal.decreases-loop-t
decreases-loop-t g l = length l.left

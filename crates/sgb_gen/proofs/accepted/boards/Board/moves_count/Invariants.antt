use Rattle.std.proofs.Common.{◌≡◌, ◌+◌, length}
use Rattle.std.specs.List.{All, flat_map}
use Rattle.sgb_vec.specs.Boxes.{box}
use Rattle.sgb_gen.specs.Boards.{moves_of_board}
use Rattle.sgb_gen.specs.inner.LocalBoards.{moves_by}
use Rattle.sgb_moves.specs.Moves.{sides_of}
use Rattle.sgb_gen.proofs.accepted.boards.Board.moves_count.Given as goal

-- the moves by the displacements that are left are still to be counted
abbrev pub invariant-loop-t : goal.invariant-loop-t
invariant-loop-t l =
    All (λ t. length t ≡ length l.self.sizes) l.left
    × (l.counted + length (flat_map (moves_by (sides_of l.self.sizes l.self.wrap) l.self.piece (box l.self.sizes)) l.left) ≡ length (moves_of_board l.self))

-- each turn leaves out one displacement
abbrev pub decreases-loop-t : goal.decreases-loop-t
decreases-loop-t l = length l.left

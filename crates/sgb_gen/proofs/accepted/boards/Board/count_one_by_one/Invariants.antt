use Rattle.std.proofs.Common.{◌≡◌, ◌+◌, length}
use Rattle.sgb_vec.specs.Boxes.{box}
use Rattle.sgb_gen.specs.inner.LocalBoards.{moves_by}
use Rattle.sgb_moves.specs.Moves.{sides_of}
use Rattle.sgb_gen.proofs.BoardCountsBoards.{moves_beyond}
use Rattle.sgb_gen.proofs.accepted.boards.Board.count_one_by_one.Given as goal

-- the moves of greater lengths are still to be counted
abbrev pub invariant-loop-shorter : goal.invariant-loop-shorter
invariant-loop-shorter l =
    l.counted + moves_beyond l.self.sizes l.self.wrap l.self.piece l.t l.shorter
    ≡ l.before + length (moves_by (sides_of l.self.sizes l.self.wrap) l.self.piece (box l.self.sizes) l.t)

use Rattle.std.proofs.Common.{◌≡◌, ◌++◌, ◌+◌}
use Rattle.std.specs.List.{filter}
use Rattle.sgb_vec.specs.Boxes.{box}
use Rattle.sgb_gen.specs.inner.LocalBoards.{other_starts}
use Rattle.sgb_moves.specs.inner.Starts.{is_within}
use Rattle.sgb_gen.proofs.BoardWalks.{moves_left, moves_of}
use Rattle.sgb_gen.proofs.accepted.boards.Board.put_others.Given as goal

-- the moves of the lengths above this one are still to come
abbrev pub invariant-loop-shorter : goal.invariant-loop-shorter
invariant-loop-shorter l =
    l.starts ++ filter (is_within l.range) (other_starts (box l.self.sizes) l.u (moves_left l.self l.back l.x (l.shorter + 1)))
    ≡ l.fn.starts ++ filter (is_within l.range) (other_starts (box l.self.sizes) l.u (moves_of l.self l.back l.x))

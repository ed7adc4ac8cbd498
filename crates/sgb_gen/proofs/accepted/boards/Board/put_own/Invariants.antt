use Rattle.std.proofs.Common.{◌≡◌, ◌++◌, ◌+◌}
use Rattle.std.specs.List.{filter}
use Rattle.sgb_gen.specs.inner.LocalBoards.{own_starts}
use Rattle.sgb_moves.specs.inner.Starts.{is_within}
use Rattle.sgb_gen.proofs.BoardWalks.{moves_of}
use Rattle.sgb_gen.proofs.OwnLengths.{within_left}
use Rattle.sgb_gen.proofs.accepted.boards.Board.put_own.Given as goal

-- the lengths above this one are still to come
abbrev pub invariant-loop-shorter : goal.invariant-loop-shorter
invariant-loop-shorter l =
    l.starts ++ within_left l.u l.count l.range (l.shorter + 1) ≡ l.fn.starts ++ filter (is_within l.range) (own_starts l.u (moves_of l.self l.t l.x))

use Rattle.std.proofs.Common.{rules}
use Rattle.sgb_vec.proofs.BoardSizes.{chessboard_by_stop}
use Rattle.sgb_vec.proofs.shapes.boards.board_sizes.Goals as goal

pub returns-then-n1-le0 : goal.returns-then-n1-le0
returns-then-n1-le0 c = search (rules, chessboard_by_stop)

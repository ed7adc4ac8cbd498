use Rattle.std.proofs.Common.{rules}
use Rattle.sgb_gen.proofs.Reaches.{longest-rider}
use Rattle.sgb_gen.proofs.accepted.boards.Board.longest_move.Goals as goal

pub returns-then-self-lt0 : goal.returns-then-self-lt0
returns-then-self-lt0 c = search (rules, longest-rider)

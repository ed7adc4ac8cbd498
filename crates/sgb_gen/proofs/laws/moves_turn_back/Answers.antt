use Rattle.sgb_moves.proofs.TurnedMoves.{moves_turned}
use Rattle.sgb_gen.proofs.laws.moves_turn_back.Goals as goal

pub returns : goal.returns
returns c = moves_turned

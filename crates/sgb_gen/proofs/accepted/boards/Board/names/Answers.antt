use Rattle.sgb_vec.proofs.Common.{rules}
use Rattle.sgb_vec.proofs.BoxPlaces.{length-box}
use Rattle.sgb_gen.proofs.accepted.boards.Board.names.Goals as goal

pub returns-clause-few : goal.returns-clause-few
returns-clause-few c = search (rules, length-box)

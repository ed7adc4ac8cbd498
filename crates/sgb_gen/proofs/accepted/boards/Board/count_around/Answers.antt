use Rattle.std.proofs.Common.{rules}
use Rattle.sgb_vec.proofs.BoxPlaces.{length-box}
use Rattle.sgb_gen.proofs.BoardCountsTotals.{around-all}
use Rattle.sgb_gen.proofs.accepted.boards.Board.count_around.Goals as goal

pub returns : goal.returns
returns c = search (rules, length-box, around-all)

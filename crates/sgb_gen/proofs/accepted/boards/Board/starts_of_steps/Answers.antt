use Rattle.std.proofs.Common.{rules}
use Rattle.std.proofs.lemmas.Int.{to_z-of_z}
use Rattle.sgb_gen.proofs.BoardCountsBoards.{most_of_64, product-exact}
use Rattle.sgb_gen.proofs.accepted.boards.Board.starts_of_steps.Goals as goal

pub returns : goal.returns
returns c = search (rules, to_z-of_z, most_of_64, product-exact)

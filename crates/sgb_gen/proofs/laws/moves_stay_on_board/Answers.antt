use Rattle.sgb_gen.specs.inner.Laws.{MovesStayOnBoard}
use Rattle.sgb_gen.proofs.Destinations.{place-below}
use Rattle.sgb_gen.proofs.laws.moves_stay_on_board.Goals as goal

pub returns : goal.returns
returns c = let law : MovesStayOnBoard = place-below in law

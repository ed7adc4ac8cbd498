use Rattle.sgb_moves.specs.inner.Starts.{extent}
use Rattle.sgb_gen.proofs.accepted.boards.Board.+give_within.Given as goal

abbrev pub decreases-give_within : goal.decreases-give_within
decreases-give_within g l = extent l.range

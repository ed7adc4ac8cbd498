use Rattle.sgb_moves.proofs.WrapBits.{wraps-is}
use Rattle.sgb_moves.proofs.moves.wraps.Goals as goal

pub returns : goal.returns
returns c = rw c.min.ensures (wraps-is c.args.wrap c.args.k c.ranges.wrap)

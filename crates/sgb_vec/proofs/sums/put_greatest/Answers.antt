use Rattle.std.proofs.Common.{arith}
use Rattle.sgb_vec.proofs.SumTails.{filled_up-more, filled_up-all}
use Rattle.sgb_vec.proofs.sums.put_greatest.Goals as goal

pub loop-place-preserved : goal.loop-place-preserved
loop-place-preserved c = (
  rw c.min-taken.ensures (filled_up-more c.args.bounds.now c.loop-place.entries c.loop-place.place c.loop-place.rest c.args.total (omega arith) (omega arith) c.loop-place.invariant.0),
  omega (arith, c.visit.ensures, c.loop-place.invariant.1),
)

pub returns-clause-last : goal.returns-clause-last
returns-clause-last c =
    filled_up-all c.args.bounds.now c.loop-place.entries c.loop-place.place c.loop-place.rest c.args.total (omega arith) (omega arith) c.loop-place.invariant.0

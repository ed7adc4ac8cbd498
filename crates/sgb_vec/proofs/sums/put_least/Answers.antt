use Rattle.std.proofs.Common.{◌≡◌, ◌-◌, arith}
use Rattle.sgb_vec.proofs.SumTails.{filled-none, filled-more, filled-all}
use Rattle.sgb_vec.proofs.sums.put_least.Goals as goal

pub loop-place-init : goal.loop-place-init
loop-place-init c = (filled-none c.args.bounds.now c.args.entries.now c.args.total c.requires.same_length, omega arith)

pub loop-place-preserved : goal.loop-place-preserved
loop-place-preserved c = (
  rw c.min-entry.ensures (filled-more c.args.bounds.now c.loop-place.entries (c.loop-place.place - 1) c.loop-place.place c.loop-place.rest c.args.total (omega arith) (omega arith) (omega arith) c.loop-place.invariant.0),
  omega (arith, c.visit.ensures, c.loop-place.invariant.1),
)

pub returns-clause-first : goal.returns-clause-first
returns-clause-first c =
    let all : c.loop-place.place ≡ 0 = omega arith in
    filled-all c.args.bounds.now c.loop-place.entries c.loop-place.rest c.args.total c.requires.room (rw all at c.loop-place.invariant.0)

use borrow.Author.Count.{below_more}
use Rattle.std.proofs.Common.{◌+◌, ◌<◌, ◌≤◌, get_or, arith}
use Rattle.sgb_moves.proofs.SideEntries.{entry_less, entry_there}
use Rattle.sgb_moves.proofs.moves.is_inside.Goals as goal

pub bounds-x-k : goal.bounds-x-k
bounds-x-k c = entry_there c.args.sizes.now c.args.x.now c.loop-k.k c.requires c.loop-k-test.true

pub overflow_sub-size : goal.overflow_sub-size
overflow_sub-size c = omega (arith, entry_less c.args.sizes.now c.args.x.now c.loop-k.k c.requires c.loop-k-test.true)

pub bounds-x-k-else-x-k : goal.bounds-x-k-else-x-k
bounds-x-k-else-x-k c = entry_there c.args.sizes.now c.args.x.now c.loop-k.k c.requires c.loop-k-test.true

pub overflow_sub-size-else-x-k : goal.overflow_sub-size-else-x-k
overflow_sub-size-else-x-k c = omega (arith, entry_less c.args.sizes.now c.args.x.now c.loop-k.k c.requires c.loop-k-test.true)

pub loop-k-preserved : goal.loop-k-preserved
loop-k-preserved c =
    below_more (λ j. (c.args.room ≤ get_or c.args.x.now j 0) × (get_or c.args.x.now j 0 + c.args.room < get_or c.args.sizes.now j 0)) c.loop-k.k c.loop-k.invariant
    (c.if-x-k.false, omega (arith, entry_less c.args.sizes.now c.args.x.now c.loop-k.k c.requires c.loop-k-test.true))

pub returns : goal.returns
returns c = λ k h. c.loop-k.invariant k (omega arith)

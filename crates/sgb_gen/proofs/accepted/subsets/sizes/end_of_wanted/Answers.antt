use Rattle.std.proofs.Common.{◌-◌, arith}
use Rattle.sgb_gen.specs.inner.Descents.{HasNoArcs}
use Rattle.sgb_gen.proofs.DescentSteps.{entry-unwanted, range_below}
use Rattle.sgb_gen.proofs.accepted.subsets.sizes.end_of_wanted.Goals as goal

pub loop-after-preserved : goal.loop-after-preserved
loop-after-preserved c =
    let b = c.args.begun in
    let none = rw c.placed.ensures at c.if-may_be_among.ensures in (
      omega (arith, c.loop-after-test.true),
      omega (arith, c.loop-after.invariant.1),
      range_below (HasNoArcs b.size_bits b.room b.shared b.left b.common c.args.bound c.args.own) c.loop-after.after c.args.end (omega (arith, c.loop-after-test.true)) c.loop-after.invariant.2
          (entry-unwanted b.size_bits b.room b.shared b.left b.common c.args.bound c.args.own (c.loop-after.after - 1) (omega (arith, c.loop-after.invariant.1, c.requires.end)) none),
    )

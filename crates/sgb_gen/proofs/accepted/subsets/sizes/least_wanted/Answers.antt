use Rattle.std.proofs.Common.{arith}
use Rattle.sgb_gen.specs.inner.Descents.{HasNoArcs}
use Rattle.sgb_gen.proofs.DescentSteps.{entry-unwanted, range_above}
use Rattle.sgb_gen.proofs.accepted.subsets.sizes.least_wanted.Goals as goal

pub loop-least-preserved : goal.loop-least-preserved
loop-least-preserved c =
    let b = c.args.begun in
    let none = rw c.placed.ensures at c.if-may_be_among.ensures in (
      omega (arith, c.loop-least.invariant.0),
      omega (arith, c.loop-least-test.true),
      range_above (HasNoArcs b.size_bits b.room b.shared b.left b.common c.args.bound c.args.own) c.args.low c.loop-least.least c.loop-least.invariant.2
          (entry-unwanted b.size_bits b.room b.shared b.left b.common c.args.bound c.args.own c.loop-least.least (omega (arith, c.loop-least-test.true, c.requires.end)) none),
    )

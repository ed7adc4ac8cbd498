use Rattle.std.proofs.Common.{◌∷◌, ◌+◌, arith, sym, subst, ap, length}
use Rattle.sgb_gen.proofs.KeptCounts.{IsCounted, IsCounted-more, IsCounted-all}
use Rattle.sgb_gen.proofs.counted_places.CountRow.with_bound.Goals as goal

pub loop-n-preserved : goal.loop-n-preserved
loop-n-preserved c total after has =
    let bounds = c.args.bound ∷ after in
    let more = IsCounted-more c.loop-n.n c.loop-n.before c.of_sum.result c.in_ok-before.before c.loop-n.counts.items bounds (c.of_sum.ensures total after has) (omega (arith, c.in_ok-before.ensures)) (c.loop-n.invariant total after has) in
    subst (λ row. IsCounted (c.loop-n.n + 1) c.in_ok-before.before row bounds) (sym c.in-Ok.ensures.items) more

pub returns : goal.returns
returns c total after has =
    IsCounted-all c.loop-n.n c.loop-n.before total c.loop-n.counts.items (c.args.bound ∷ after) (omega (arith, has.long, ap length c.self.view_is)) (c.loop-n.invariant total after has)

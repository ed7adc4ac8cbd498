use Rattle.std.proofs.Common.{◌≡◌, ◌-◌, ap, arith}
use Rattle.sgb_vec.proofs.SumTriples.{triangle, triangle-is, pairs-closed}
use Rattle.sgb_vec.proofs.sums.triples.pairs_up_to.Goals as goal

pub overflow_sub-result : goal.overflow_sub-result
overflow_sub-result c = grind (arith, triangle-is, triangle, pairs-closed)

pub overflow_sub-result-2 : goal.overflow_sub-result-2
overflow_sub-result-2 c =
    let above : c.saturating_sub-above_both.result ≡ c.args.sum - c.args.a - 1 - c.args.b = omega arith in
    omega (arith, triangle-is _ _ c.triangle.ensures.twice, triangle-is _ _ c.triangle-2.ensures.twice, triangle-is _ _ c.triangle-3.ensures.twice, triangle-is _ _ c.triangle-4.ensures.twice, ap triangle above, ap triangle c.saturating_sub-above_a.ensures, ap triangle c.saturating_sub-above_b.ensures, pairs-closed c.args.a c.args.b c.args.sum)

pub returns : goal.returns
returns c =
    let above : c.saturating_sub-above_both.result ≡ c.args.sum - c.args.a - 1 - c.args.b = omega arith in
    omega (arith, triangle-is _ _ c.triangle.ensures.twice, triangle-is _ _ c.triangle-2.ensures.twice, triangle-is _ _ c.triangle-3.ensures.twice, triangle-is _ _ c.triangle-4.ensures.twice, ap triangle above, ap triangle c.saturating_sub-above_a.ensures, ap triangle c.saturating_sub-above_b.ensures, pairs-closed c.args.a c.args.b c.args.sum)

use Rattle.sgb_vec.proofs.Common.{◌==◌, ◌+◌, ℕ, cond, refl, arith, sum_by_more, common_steps}
use Rattle.sgb_expr.proofs.measure.is_deep.Goals as goal

pub returns-then-saturating_sub-gt-MOST_DEPTH : goal.returns-then-saturating_sub-gt-MOST_DEPTH
returns-then-saturating_sub-gt-MOST_DEPTH c =
    let at = c.loop-byte.byte-index in
    let opened = sum_by_more (λ (byte : ℕ). cond (byte == 40) 1 0) c.args.text.now at 0 c.loop-byte-test.true in
    let closed = sum_by_more (λ (byte : ℕ). cond (byte == 41) 1 0) c.args.text.now at 0 c.loop-byte-test.true in
    (λ _. (at + 1, omega arith, grind (arith, common_steps)), λ _. refl)

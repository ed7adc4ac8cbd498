use Rattle.sgb_vec.proofs.Common.{ℤ, pos, map, arith, common_steps, at_drop_more}
use Rattle.sgb_vec.proofs.shapes.entries.zero_after_stop.Goals as goal

pub loop-entry-preserved-then-stopped : goal.loop-entry-preserved-then-stopped
loop-entry-preserved-then-stopped c =
    let e = at_drop_more (map (λ (n : ℤ). pos 0)) c.args.entries.now c.loop-entry.entry-index (pos 0) (omega arith) in
    rw c.if-stopped.true (grind (arith, common_steps))

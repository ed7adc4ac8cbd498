use Rattle.sgb_vec.proofs.Common.{◌≡◌, ◌≤◌, ◌+◌, ◌++◌, ◌∷◌, [], take, sym, ap, ◌∙◌, arith, take_more}
use Rattle.sgb_ops.proofs.RisingSums.{rise_more}
use Rattle.sgb_ops.proofs.merged.are_rising.Goals as goal

pub loop-event-preserved : goal.loop-event-preserved
loop-event-preserved c =
    let events = c.args.events.now in
    let e = c.event-item.result in
    let i = c.loop-event.event-index in
    let next : take (i + 1) events ≡ take i events ++ e ∷ [] = take_more events i e (omega arith) ∙ ap (λ x. take i events ++ x ∷ []) (sym c.event-item.is) in
    let after : c.loop-event.least ≤ e.from + e.to = omega (arith, c.if-sum-least.false, c.ends_sum-sum.ensures.sum) in
    rw (next, c.ends_sum-sum.ensures.sum) (rise_more c.loop-event.least (take i events) e c.loop-event.invariant after)

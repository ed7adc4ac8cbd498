use Rattle.sgb_vec.proofs.Common.{◌≡◌, ◌∙◌, ◌∷◌, [], ◌+◌, drop, sym, ap, arith, drop_more}
use Rattle.sgb_graph.proofs.AddedEvents.{up_to-more}
use Rattle.sgb_ops.proofs.events.add_events.Goals as goal

pub loop-event-preserved : goal.loop-event-preserved
loop-event-preserved c =
    let events = c.args.events.now in
    let i = c.loop-event.event-index in
    let e = c.event-item.result in
    let next : drop i events ≡ e ∷ drop (i + 1) events = drop_more events i e (omega arith) ∙ ap (λ x. x ∷ drop (i + 1) events) (sym c.event-item.is) in
    up_to-more c.args.directed c.args.built.now c.loop-event.built c.add_to.new.built (e ∷ []) (drop (i + 1) events) events _ c.loop-event.invariant next c.in_ok-add_to.ensures.ok

use Rattle.sgb_vec.proofs.Common.{◌≡◌, ◌+◌, ◌∷◌, ◌∙◌, [], drop, map, sym, ap, arith, drop_all, drop_more}
use Rattle.sgb_taken.specs.declared.events.Event.{Event}
use Rattle.sgb_ops.proofs.PlainLists.{part_more, parts_all}
use Rattle.sgb_ops.proofs.sources.push_tips_of.Goals as goal

pub loop-event-preserved : goal.loop-event-preserved
loop-event-preserved c =
    let events = c.args.events.now in
    let i = c.loop-event.event-index in
    let rest = drop (i + 1) events in
    let next : drop i events ≡ c.event-item.result ∷ rest = drop_more events i c.event-item.result (omega arith) ∙ ap (λ e. e ∷ rest) (sym c.event-item.is) in
    part_more c.loop-event.tips.items _ (c.link.result.tip ∷ []) (map (λ (e : Event). e.to) rest) (map (λ (e : Event). e.to) (drop i events)) _ (ap (map (λ (e : Event). e.to)) next ∙ ap (λ l. l.tip ∷ map (λ (e : Event). e.to) rest) (sym c.link.ensures)) c.loop-event.invariant
    c.in_ok-push.ensures.items

pub returns-clause-ok : goal.returns-clause-ok
returns-clause-ok c = parts_all c.loop-event.tips.items _ _ (ap (map (λ (e : Event). e.to)) (drop_all c.loop-event.event-index c.args.events.now (omega arith))) c.loop-event.invariant

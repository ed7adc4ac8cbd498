use Rattle.sgb_vec.proofs.Common.{◌≡◌, ◌+◌, ◌++◌, ◌∷◌, ◌∙◌, [], Bool, List, cond, drop, filter, map, sym, ap, arith, cases_Bool, drop_all, drop_more}
use Rattle.sgb_graph.specs.declared.fields.Link.{Link}
use Rattle.sgb_ops.specs.inner.Copies.{leads_to_copies}
use Rattle.sgb_taken.specs.inner.Ends.{link_of}
use Rattle.sgb_ops.proofs.PlainLists.{part_more, parts_all}
use Rattle.sgb_ops.proofs.induced_graphs.rooms.push_arcs_to_copies.Goals as goal

-- the first arc, where it is kept
first_kept : (keeps : Link → Bool) (x : Link) (xs : List Link) → filter keeps (x ∷ xs) ≡ cond (keeps x) (x ∷ []) [] ++ filter keeps xs
first_kept keeps x xs = grind (arith, cases_Bool)

pub loop-event-preserved : goal.loop-event-preserved
loop-event-preserved c =
    let events = c.args.events.now in
    let i = c.loop-event.event-index in
    let keeps = leads_to_copies c.args.copies.now in
    let rest = drop (i + 1) events in
    let next : drop i events ≡ c.event-item.result ∷ rest = drop_more events i c.event-item.result (omega arith) ∙ ap (λ e. e ∷ rest) (sym c.event-item.is) in
    part_more c.loop-event.arcs.items _ (cond (keeps c.link.result) (c.link.result ∷ []) []) (filter keeps (map link_of rest)) (filter keeps (map link_of (drop i events))) _
    (ap (λ es. filter keeps (map link_of es)) next ∙ (ap (λ l. filter keeps (l ∷ map link_of rest)) (sym c.link.ensures) ∙ first_kept keeps c.link.result (map link_of rest)))
    c.loop-event.invariant c.in_ok-push_arc_to_copies.ensures.ok

pub returns-clause-ok : goal.returns-clause-ok
returns-clause-ok c =
    let keeps = leads_to_copies c.args.copies.now in
    parts_all c.loop-event.arcs.items _ _ (ap (λ es. filter keeps (map link_of es)) (drop_all c.loop-event.event-index c.args.events.now (omega arith))) c.loop-event.invariant

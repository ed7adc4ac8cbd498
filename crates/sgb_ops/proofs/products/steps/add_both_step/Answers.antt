use Rattle.sgb_vec.proofs.Common.{◌∙◌, drop, drop_all, get_or, ap, map, refl, w64, to_z, of_z, rules, arith, to_z-of_z, int_min}
use Rattle.sgb_graph.proofs.AddedEvents.{up_to-all}
use Rattle.sgb_ops.specs.inner.Steps.{both_step}
use Rattle.sgb_ops.proofs.Places.{arc_added, same_event}
use Rattle.sgb_ops.proofs.TallyLemmas.{no_arc}
use Rattle.sgb_ops.proofs.products.steps.add_both_step.Goals as goal

pub loop-other-preserved : goal.loop-other-preserved
loop-other-preserved c =
    let other = get_or c.args.others.now c.loop-other.other-index no_arc in
    let own = to_z-of_z w64 c.args.arc.len (search rules) in
    let its = to_z-of_z w64 other.len (search rules) in
    let len = to_z-of_z w64 c.lesser.result (search rules)
    ∙ (c.lesser.ensures ∙ (ap (λ k. int_min k (to_z w64 (of_z w64 other.len))) own ∙ ap (int_min c.args.arc.len) its)) in
    let added = same_event c.args.directed c.loop-other.built c.add_event.new.self _ _ _ _ _ _ c.place-from.ensures.value c.place.ensures.value len c.in_ok-add_event.ensures.ok in
    arc_added c.args.directed c.args.built.now c.loop-other.built c.add_event.new.self (map (both_step c.args.h c.args.x c.args.y c.args.arc)) c.args.others.now c.loop-other.other-index _
    (omega arith) c.loop-other.invariant added refl

pub returns-clause-ok : goal.returns-clause-ok
returns-clause-ok c =
    let steps = map (both_step c.args.h c.args.x c.args.y c.args.arc) in
    let others = c.args.others.now in
    let i = c.loop-other.other-index in
    up_to-all c.args.directed c.args.built.now c.loop-other.built (steps (drop i others)) (steps others) c.loop-other.invariant (ap steps (drop_all i others (omega arith)))

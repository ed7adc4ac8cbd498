use Rattle.sgb_vec.proofs.Common.{ℤ, w64, rules, ◌++◌, ◌∷◌, [], ◌∙◌, ◌+◌, map, length, ap, subst, All, to_z-of_z, All-tail}
use Rattle.sgb_ops.specs.inner.Entries.{inner_event, inner_events_from}
use Rattle.sgb_ops.specs.inner.Induced.{wanted}
use Rattle.sgb_taken.proofs.TakenTips.{TipBelow}
use Rattle.sgb_vec.proofs.Lists.{steps_to}
use Rattle.sgb_ops.proofs.WantedEvents.{wanted_more}
use Rattle.sgb_ops.proofs.induced_graphs.events.push_inner_arcs.Goals as goal

pub loop-arc-init : goal.loop-arc-init
loop-arc-init c = search (rules, All, TipBelow, wanted, inner_event)

pub loop-arc-preserved : goal.loop-arc-preserved
loop-arc-preserved c =
    let n = length c.args.inner.now.vertices in
    let self = c.args.flags.self_loops in
    let event = inner_event c.args.start c.args.w in
    let arc = c.in-Some.arc in
    let rest = c.next.new.self in
    let step = steps_to c.loop-arc.arc-iterator rest c.next.result arc c.in-Some.is c.next.ensures.steps in
    let start = c.args.start in
    let w = c.args.w in
    let same = ap (λ (far : ℤ). record { from = start + w; to = start + arc.tip; len = far }) (to_z-of_z w64 arc.len (search rules)) in
    let whole = inner_events_from c.args.flags.directed c.args.start c.args.inner.now c.args.w in (
      All-tail (TipBelow n) arc rest (subst (All (TipBelow n)) step c.loop-arc.invariant.0),
      wanted_more self c.loop-arc.events.items c.push_wanted.new.events.items (event arc ∷ []) (map event rest) (map event c.loop-arc.arc-iterator) (c.args.events.now.items ++ wanted self whole)
          (ap (map event) step) c.loop-arc.invariant.1
          (c.in_ok-push_wanted.ensures.ok ∙ ap (λ e. c.loop-arc.events.items ++ wanted self (e ∷ [])) (c.new-event.ensures ∙ same)),
    )

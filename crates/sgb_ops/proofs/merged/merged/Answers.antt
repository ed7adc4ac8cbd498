use Rattle.sgb_vec.proofs.Common.{rules, ◌≡◌, ◌+◌, ◌∙◌, ◌++◌, ◌∷◌, [], sym, ap, take, arith, take_all, take_more}
use Rattle.sgb_taken.specs.inner.Ends.{ends_key}
use Rattle.sgb_ops.specs.Merged.{merged}
use Rattle.sgb_ops.proofs.MergeSteps.{merged_more}
use Rattle.sgb_ops.proofs.merged.merged.Goals as goal

pub loop-event-init : goal.loop-event-init
unfolding merged
loop-event-init c = search (rules, ends_key)

pub loop-event-preserved : goal.loop-event-preserved
loop-event-preserved c =
    let events = c.args.events.now in
    let e = c.event-item.result in
    let i = c.loop-event.event-index in
    let next : take (i + 1) events ≡ take i events ++ e ∷ [] = take_more events i e (omega arith) ∙ ap (λ x. take i events ++ x ∷ []) (sym c.event-item.is) in (
      rw (c.in_ok-merge_event.ensures.ok, next, c.loop-event.invariant.0) (sym (merged_more c.args.directed (take i events) e)),
      c.in_ok-merge_event.ensures.ends,
    )

pub returns-clause-ok : goal.returns-clause-ok
returns-clause-ok c = c.loop-event.invariant.0 ∙ ap (merged c.args.directed) (take_all c.loop-event.event-index c.args.events.now (omega arith))

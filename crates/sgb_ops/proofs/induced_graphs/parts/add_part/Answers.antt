use Rattle.sgb_vec.proofs.Common.{rules, ◌≡◌, ◌∙◌, false, length, sym, ap, subst, OnOk, OnTrue_at}
use Rattle.sgb_graph.specs.Growth.{AddsEvents}
use Rattle.sgb_ops.specs.Merged.{merged_unless}
use Rattle.sgb_ops.specs.inner.Ends.{AllWithin}
use Rattle.sgb_ops.proofs.EventsWithin.{merged_unless_within}
use Rattle.sgb_ops.proofs.induced_graphs.parts.add_part.Goals as goal

pub returns-then-are_merged-clause-ok : goal.returns-then-are_merged-clause-ok
returns-then-are_merged-clause-ok c = search (rules, AddsEvents, OnTrue_at)

pub add_events-requires-2-clause-within : goal.add_events-requires-2-clause-within
add_events-requires-2-clause-within c =
    let n = length c.args.built.now.vertices in
    subst (AllWithin n) (sym (c.deref.ensures.value ∙ c.in_ok-events.ensures.ok)) (merged_unless_within n false c.args.flags.directed c.args.part.now c.requires.within)

pub returns-clause-ok : goal.returns-clause-ok
returns-clause-ok c =
    let d = c.args.flags.directed in
    let part = c.args.part.now in
    let others : c.args.flags.multi ≡ false = search rules in
    subst
    (λ es. OnOk c.add_events-2.result (AddsEvents d c.args.built.now c.add_events-2.new.built es))
    (c.deref.ensures.value ∙ (c.in_ok-events.ensures.ok ∙ ap (λ m. merged_unless m d part) (sym others))) c.add_events-2.ensures.ok

use Rattle.sgb_vec.proofs.Common.{◌∙◌, ◌++◌, sym, ap, subst, All-append, All-filter}
use Rattle.sgb_graph.specs.Events.{HasEndsBelow}
use Rattle.sgb_ops.specs.inner.Entries.{total_of}
use Rattle.sgb_ops.specs.Induced.{events_between}
use Rattle.sgb_ops.specs.Merged.{merged_unless}
use Rattle.sgb_ops.specs.inner.Ends.{AllWithin}
use Rattle.sgb_ops.specs.inner.Induced.{is_wanted, wanted}
use Rattle.sgb_ops.proofs.CopiesWithin.{between_within}
use Rattle.sgb_ops.proofs.EventsWithin.{merged_unless_within}
use Rattle.sgb_ops.proofs.induced_graphs.add_merged.Goals as goal

pub add_events-requires-clause-within : goal.add_events-requires-clause-within
add_events-requires-clause-within c =
    let copies = c.args.copies.now in
    let g = c.args.graph.now in
    let n = total_of copies in
    let self = c.args.flags.self_loops in
    let multi = c.args.flags.multi in
    let d = c.args.flags.directed in
    let kept = c.args.kept.items in
    let between = events_between g copies d in
    let same = c.deref.ensures.value ∙ (c.in_ok-events.ensures.ok ∙ ap (merged_unless multi d) c.in_ok-push_events_between.ensures.ok) in
    let all = All-append (HasEndsBelow n) kept (wanted self between) c.requires.within (All-filter (is_wanted self) (HasEndsBelow n) between (between_within copies d c.requires.numbered g)) in
    subst (λ k. AllWithin k c.deref.result.now) (sym c.requires.size)
    (subst (AllWithin n) (sym same) (merged_unless_within n multi d (kept ++ wanted self between) all))

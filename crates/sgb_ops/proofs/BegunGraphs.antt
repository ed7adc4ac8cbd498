-- An induced graph under way, and finished: it is the one that is described.
use Rattle.sgb_vec.proofs.Common.{arith, ◌≡◌, ◌∙◌, Bool, true, false, List, Result, Ok, length, refl, sym, ap, subst, All, IfOk, IsOkUnless, list_any, length-map, All-filter, filter-append}
use Rattle.sgb_vec.specs.declared.panics.Panic.{Panic}
use Rattle.sgb_vec.specs.declared.panics.Panic.TheVariants.{NoRoom}
use Rattle.sgb_graph.specs.Descriptions.{IsAnswerOf, IsGraphOf}
use Rattle.sgb_graph.specs.Events.{Event, HasEndsBelow}
use Rattle.sgb_graph.specs.Graphs.{GraphData}
use Rattle.sgb_graph.specs.Growth.{AddsEvents}
use Rattle.sgb_graph.proofs.AddedEvents.{adds-then}
use Rattle.sgb_ops.specs.declared.induced_graphs.entries.Entry.{Entry}
use Rattle.sgb_ops.specs.Entries.{accepted_entries, events_within, is_unnumbered, merged_count, names_by_entries}
use Rattle.sgb_ops.specs.Induced.{events_between, induced_events, induced_of}
use Rattle.sgb_ops.specs.Merged.{merged_unless}
use Rattle.sgb_graph.specs.Vertices.{names_of, order_of}
use Rattle.sgb_ops.specs.inner.Begun.{HasInside, IsBegun, IsFinished, later_events, named_graph}
use Rattle.sgb_ops.specs.inner.Copies.{IsKeptEntry, sized}
use Rattle.sgb_ops.specs.inner.Ends.{AllWithin}
use Rattle.sgb_ops.specs.inner.Entries.{total_of}
use Rattle.sgb_ops.specs.inner.Induced.{induced_graph, is_wanted, wanted}
use Rattle.sgb_ops.specs.inner.Compounds.{induced_id}
use Rattle.sgb_ops.proofs.CopiesWithin.{events_inside, length-names}
use Rattle.sgb_ops.proofs.InducedParts.{both_left}
use Rattle.sgb_ops.proofs.Results.{made}
use Rattle.sgb_ops.proofs.SizedEntries.{between_sized, merged_sized, numbered_sized, total_sized}

module _ (g : GraphData) (entries : List Entry) (self multi directed : Bool) where
  -- the vertices are as many as the entries make
  named_size : length entries ≡ order_of g → length (named_graph g entries).vertices ≡ total_of entries
  named_size count = grind (arith, length-map, length-names)

  inside_size : (in_parts : Bool) (kept : List Event) (built : GraphData) → length entries ≡ order_of g → HasInside g entries self multi directed in_parts kept built → length built.vertices ≡ total_of entries
  inside_size in_parts kept built count inside = grind (arith, named_size)

  inside_own : (in_parts : Bool) (kept : List Event) (built : GraphData) → HasInside g entries self multi directed in_parts kept built → in_parts ≡ true → merged_count entries ≡ 0
  inside_own in_parts kept built inside is = grind (arith)

  inside_within : (in_parts : Bool) (kept : List Event) (built : GraphData) → list_any is_unnumbered entries ≡ false → All IsKeptEntry entries → HasInside g entries self multi directed in_parts kept built
      → in_parts ≡ false → AllWithin (total_of entries) kept
  inside_within true kept built numbered sound inside is = absurd cc
  inside_within false kept built numbered sound inside is =
      subst (AllWithin (total_of entries)) (sym inside.0)
      (All-filter (is_wanted self) (HasEndsBelow (total_of entries)) (events_within entries directed) (events_inside entries directed numbered sound))

  -- with the events that are still to come it has all
  inside_all : (in_parts : Bool) (kept : List Event) (built grown : GraphData) → list_any is_unnumbered entries ≡ false → All IsKeptEntry entries → HasInside g entries self multi directed in_parts kept built
      → AddsEvents directed built grown (later_events in_parts multi directed kept (wanted self (events_between g entries directed)))
      → AddsEvents directed (named_graph g entries) grown (induced_events g entries self multi directed)
  inside_all true kept built grown numbered sound inside added =
      let within = merged_unless multi directed (wanted self (events_within entries directed)) in
      let between = merged_unless multi directed (wanted self (events_between g entries directed)) in
      subst (AddsEvents directed (named_graph g entries) grown) (both_left g entries directed numbered inside.0.own sound inside.0.loops self multi)
      (adds-then directed (named_graph g entries) built grown within between inside.1 added)
  inside_all false kept built grown numbered sound inside added = grind (arith, filter-append)

  module _ (copies : List Entry) (in_parts : Bool) (kept : List Event) (built : GraphData) (numbered : list_any is_unnumbered entries ≡ false) (begun : IsBegun g entries self multi directed copies in_parts kept built) where
    pub begun_numbered : list_any is_unnumbered copies ≡ false
    begun_numbered = ap (list_any is_unnumbered) begun.sized_copies ∙ (numbered_sized entries ∙ numbered)

    pub begun_count : length entries ≡ order_of g → length copies ≡ order_of g
    begun_count count = ap length begun.sized_copies ∙ (length-map entries sized ∙ count)

    pub begun_own : in_parts ≡ true → merged_count copies ≡ 0
    begun_own is = ap merged_count begun.sized_copies ∙ (merged_sized entries ∙ inside_own in_parts kept built begun.inside is)

    all_copies : total_of copies ≡ total_of entries
    all_copies = ap total_of begun.sized_copies ∙ total_sized entries

    pub begun_size : length entries ≡ order_of g → length built.vertices ≡ total_of copies
    begun_size count = inside_size in_parts kept built count begun.inside ∙ sym all_copies

    pub begun_within : All IsKeptEntry entries → in_parts ≡ false → AllWithin (total_of copies) kept
    begun_within sound is = subst (λ n. AllWithin n kept) (sym all_copies) (inside_within in_parts kept built numbered sound begun.inside is)

    -- finished, it is the induced graph
    finished_graph : (done : GraphData) → All IsKeptEntry entries → IsFinished g self multi directed copies in_parts kept built done → IsGraphOf (induced_graph g entries self multi directed) done
    finished_graph done sound (grown, added, ended) =
        let between = ap (λ es. events_between g es directed) begun.sized_copies ∙ between_sized g entries directed in
        let later = subst (λ es. AddsEvents directed built grown (later_events in_parts multi directed kept (wanted self es))) between added in
        let names = names_by_entries (names_of g) entries in
        let id = induced_id g.id self multi directed in
        made directed (induced_events g entries self multi directed) names names id id (named_graph g entries) grown done refl refl
        (inside_all in_parts kept built grown numbered sound begun.inside later) refl ended

    pub finished_answer : (result : Result GraphData Panic) → All IsKeptEntry entries → accepted_entries (order_of g) entries ≡ Ok entries → IfOk result (IsFinished g self multi directed copies in_parts kept built) → IsOkUnless result NoRoom
        → IsAnswerOf (induced_of g entries self multi directed) result
    finished_answer result sound accepted finished memory = grind (arith, finished_graph)

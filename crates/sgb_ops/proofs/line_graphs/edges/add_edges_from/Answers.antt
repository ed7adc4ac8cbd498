use Rattle.sgb_vec.proofs.Common.{rules, ◌∙◌, ℕ, List, true, false, filter, length, subst, on_ok_weaker}
use Rattle.sgb_graph.specs.Growth.{AddsEvents}
use Rattle.sgb_graph.proofs.AddedEvents.{adds-then}
use Rattle.sgb_ops.specs.inner.LineLists.{counts}
use Rattle.sgb_ops.specs.inner.Lines.{events_to_numbers}
use Rattle.sgb_ops.proofs.LineLists.{edges_at, listed, numbers_within}
use Rattle.sgb_ops.proofs.line_graphs.edges.add_edges_from.Goals as goal

pub add_edges_to-requires-clause-within : goal.add_edges_to-requires-clause-within
add_edges_to-requires-clause-within c = search (rules, listed, numbers_within)

pub add_edges_to-requires-2-clause-within : goal.add_edges_to-requires-2-clause-within
add_edges_to-requires-2-clause-within c = search (rules, listed, numbers_within)

pub returns-clause-ok : goal.returns-clause-ok
returns-clause-ok c =
    let lines = c.args.lines.now in
    let i = c.args.i in
    let line = c.args.line in
    let lists = c.args.lists.now in
    let old = c.args.built.now in
    let mid = c.add_edges_to.new.built in
    let new = c.add_edges_to-2.new.built in
    let to_end = c.as_slice.ensures ∙ listed lists line.to c.index-lists-line.result _ c.requires.within.1 c.index-lists-line.is (c.requires.listed line.to) in
    let to_start = c.as_slice-2.ensures ∙ listed lists line.from c.index-lists-line-2.result _ c.requires.within.0 c.index-lists-line-2.is (c.requires.listed line.from) in
    let first = subst (λ (ks : List ℕ). AddsEvents false old mid (events_to_numbers i (filter (counts true lines i) ks))) to_end c.in_ok-add_edges_to.ensures.ok in
    on_ok_weaker c.add_edges_to-2.result (λ added.
    let second = subst (λ (ks : List ℕ). AddsEvents false mid new (events_to_numbers i (filter (counts false lines i) ks))) to_start added in
    subst (AddsEvents false old new) (edges_at (length lists) lines i line c.requires.place c.requires.line c.requires.descending c.requires.up)
    (adds-then false old mid new _ _ first second)) c.add_edges_to-2.ensures.ok

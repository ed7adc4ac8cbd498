use Rattle.sgb_vec.proofs.Common.{rules, slice_get, option_map_or, ◌+◌, ◌∙◌, ap, subst, arith, flat_map}
use Rattle.sgb_vec.proofs.Lists.{Contains-range}
use Rattle.sgb_graph.specs.Growth.{AddsEvents}
use Rattle.sgb_graph.proofs.AddedEvents.{AddsUpTo, up_to-all, up_to-more, up_to-none}
use Rattle.sgb_ops.specs.Entries.{copies_of}
use Rattle.sgb_ops.specs.inner.Entries.{total_of}
use Rattle.sgb_ops.specs.Merged.{merged_unless}
use Rattle.sgb_ops.specs.inner.Copies.{copies_end, copies_start, count_by}
use Rattle.sgb_ops.specs.inner.Induced.{events_of_arc, wanted}
use Rattle.sgb_ops.proofs.ArcsApart.{merged_where_few}
use Rattle.sgb_ops.proofs.EntryTotals.{copies-range, copies_between, copies_within}
use Rattle.sgb_ops.proofs.InducedParts.{copies_left, copy_part}
use Rattle.sgb_ops.proofs.PlainLists.{places-none}
use Rattle.sgb_ops.proofs.WantedEvents.{events_until, until_more}
use Rattle.sgb_ops.proofs.induced_graphs.parts.add_from_copies.Goals as goal

pub loop-u-init : goal.loop-u-init
loop-u-init c = search (rules, copy_part, AddsUpTo, flat_map, copies_of, copies_between, copies_end, up_to-none)

pub add_copy-requires-clause-copy : goal.add_copy-requires-clause-copy
add_copy-requires-clause-copy c = search (rules, total_of, copies_within, copies_end)

pub add_copy-requires-clause-of : goal.add_copy-requires-clause-of
add_copy-requires-clause-of c =
    let copies = c.args.copies.now in
    let v = c.args.v in
    let u = c.loop-u.u in
    rw (copies-range copies v)
    (Contains-range (copies_start copies v) (option_map_or count_by (slice_get copies v) 0) u (omega (arith, c.start-u.ensures.value)) (omega (arith, c.loop-u-test.true, c.end-u-end.ensures.value)))

pub loop-u-preserved : goal.loop-u-preserved
loop-u-preserved c =
    let self = c.args.flags.self_loops in
    let multi = c.args.flags.multi in
    let d = c.args.flags.directed in
    let g = c.args.graph.now in
    let copies = c.args.copies.now in
    let v = c.args.v in
    let u = c.loop-u.u in
    let last = copies_end copies v in
    let part = copy_part self multi g copies d v in
    let told = c.flags_for-part_flags.ensures in
    let arcs = c.as_slice-arcs.result.now in
    let same = merged_where_few copies d c.requires.numbered c.requires.own self multi v u arcs
    ∙ ap (λ es. merged_unless multi d (wanted self es)) (ap (flat_map (events_of_arc copies d v u)) c.as_slice-arcs.ensures.value ∙ c.in_ok-take_arcs.ensures.ok u) in
    let added = subst (AddsEvents d c.loop-u.built c.add_copy.new.built) same (rw (told.directed, told.self_loops, told.multi) at c.in_ok-add_copy.ensures.ok) in
    up_to-more d c.args.built.now c.loop-u.built c.add_copy.new.built (part u) (events_until part last (u + 1)) (flat_map part (copies_of copies v)) (events_until part last u) c.loop-u.invariant
    (until_more part last u (omega (arith, c.end-u-end.ensures.value))) added

pub returns-clause-ok : goal.returns-clause-ok
returns-clause-ok c =
    let flags = c.args.flags in
    let copies = c.args.copies.now in
    let g = c.args.graph.now in
    let v = c.args.v in
    let last = copies_end copies v in
    let part = copy_part flags.self_loops flags.multi g copies flags.directed v in
    subst (AddsEvents flags.directed c.args.built.now c.loop-u.built) (copies_left g copies flags.directed c.requires.numbered c.requires.own flags.self_loops flags.multi v)
    (up_to-all flags.directed c.args.built.now c.loop-u.built (events_until part last c.loop-u.u) (flat_map part (copies_of copies v)) c.loop-u.invariant
    (ap (flat_map part) (places-none last c.loop-u.u (omega (arith, c.end-u-end.ensures.value)))))

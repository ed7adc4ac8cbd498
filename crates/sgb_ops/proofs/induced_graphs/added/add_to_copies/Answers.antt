use Rattle.sgb_vec.proofs.Common.{ℤ, w64, to_z-of_z, rules, ◌<◌, ◌+◌, ◌-◌, ◌∷◌, ◌∙◌, [], map, filter, length, sym, ap, subst, refl, arith, OnOk}
use Rattle.std.specs.List.{range_with_len}
use Rattle.sgb_graph.specs.Growth.{AddsEvents}
use Rattle.sgb_graph.proofs.AddedEvents.{AddsUpTo, up_to-none}
use Rattle.sgb_ops.specs.inner.Copies.{copies_end}
use Rattle.sgb_ops.specs.inner.Entries.{total_of}
use Rattle.sgb_ops.specs.inner.Induced.{event_between, events_of_arc, is_met, wanted}
use Rattle.sgb_ops.proofs.ArcsApart.{to_all}
use Rattle.sgb_ops.proofs.EntryTotals.{copies_between, copies_within}
use Rattle.sgb_ops.proofs.WantedEvents.{events_met, met_more, wanted_added}
use Rattle.sgb_ops.proofs.induced_graphs.added.add_to_copies.Goals as goal

pub add_to_all-requires-clause-within : goal.add_to_all-requires-clause-within
add_to_all-requires-clause-within c = omega (arith, c.end-end.ensures.value, copies_within c.args.copies.now c.args.arc.tip c.requires.numbered, c.requires.size)

pub returns-then-arc-v-clause-ok : goal.returns-then-arc-v-clause-ok
returns-then-arc-v-clause-ok c =
    let copies = c.args.copies.now in
    let a = c.args.arc in
    let flags = c.args.flags in
    let v = c.args.v in
    let u = c.args.u in
    let there = range_with_len c.start-start.result (c.end-end.result - c.start-start.result) in
    let same = ap (λ (far : ℤ). map (event_between u far) there) (to_z-of_z w64 a.len (search rules))
    ∙ (ap (map (event_between u a.len)) (copies_between copies a.tip c.start-start.result c.end-end.result c.start-start.ensures.value c.end-end.ensures.value)
    ∙ sym (to_all copies flags.directed c.requires.numbered c.requires.own flags.directed v u flags.self_loops a c.if-arc-v.true c.requires.of)) in
    subst (λ es. OnOk c.add_to_all.result (AddsEvents flags.directed c.args.built.now c.add_to_all.new.built es)) same c.add_to_all.ensures.ok

pub add_met-requires-clause-other : goal.add_met-requires-clause-other
add_met-requires-clause-other c = omega (arith, c.loop-t-test.true, c.end-end.ensures.value, copies_within c.args.copies.now c.args.arc.tip c.requires.numbered, c.loop-t.invariant.added.rest.size, c.requires.size)

pub loop-t-init : goal.loop-t-init
loop-t-init c =
    let copies = c.args.copies.now in
    let a = c.args.arc in
    let d = c.args.flags.directed in
    let self = c.args.flags.self_loops in
    let v = c.args.v in
    let u = c.args.u in
    let built = c.args.built.now in
    let all = wanted self (events_of_arc copies d v u a) in
    subst (λ ts. AddsUpTo d built built (wanted self (map (event_between u a.len) (filter (is_met d v u a.tip) ts))) all)
    (sym (copies_between copies a.tip c.start-start.result (copies_end copies a.tip) c.start-start.ensures.value refl)) (up_to-none d built all)

pub loop-t-preserved : goal.loop-t-preserved
loop-t-preserved c =
    let copies = c.args.copies.now in
    let a = c.args.arc in
    let t = c.loop-t.t in
    let d = c.args.flags.directed in
    let self = c.args.flags.self_loops in
    let v = c.args.v in
    let u = c.args.u in
    let last = copies_end copies a.tip in
    wanted_added self d c.args.built.now c.loop-t.built c.add_met.new.built (map (event_between u a.len) (filter (is_met d v u a.tip) (t ∷ []))) (events_met d v u a last (t + 1)) (events_met d v u a last t)
    (wanted self (events_of_arc copies d v u a))
    (met_more d v u a last t (omega (arith, c.loop-t-test.true, c.end-end.ensures.value))) c.loop-t.invariant c.in_ok-add_met.ensures.ok

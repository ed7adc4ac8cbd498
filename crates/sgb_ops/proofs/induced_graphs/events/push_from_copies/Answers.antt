use Rattle.std.proofs.Common.{rules, ◌++◌, ◌+◌, ◌∙◌, ap, arith, flat_map}
use Rattle.sgb_ops.specs.inner.Copies.{copies_end}
use Rattle.sgb_ops.specs.inner.Induced.{events_of_arc, events_of_copies, events_of_copy, wanted}
use Rattle.sgb_ops.proofs.EntryTotals.{copies_between}
use Rattle.sgb_ops.proofs.WantedEvents.{wanted_more, events_until, until_more}
use Rattle.sgb_ops.proofs.induced_graphs.events.push_from_copies.Goals as goal

pub loop-u-init : goal.loop-u-init
loop-u-init c = search (rules, copies_end, wanted, flat_map, events_of_copy, copies_between)

pub loop-u-preserved : goal.loop-u-preserved
loop-u-preserved c =
    let g = c.args.graph.now in
    let copies = c.args.copies.now in
    let v = c.args.v in
    let u = c.loop-u.u in
    let d = c.args.flags.directed in
    let self = c.args.flags.self_loops in
    let last = copies_end copies v in
    let events = events_of_copy g copies d v in
    let before = c.loop-u.events.items in
    let arcs = c.as_slice-arcs.ensures.value in
    wanted_more self before c.push_from_copy.new.events.items (events u) (events_until events last (u + 1)) (events_until events last u)
    (c.args.events.now.items ++ wanted self (events_of_copies g copies d v))
    (until_more events last u (omega (arith, c.end-u-end.ensures.value))) c.loop-u.invariant
    (c.in_ok-push_from_copy.ensures.ok ∙ ap (λ es. before ++ wanted self es) (ap (flat_map (events_of_arc copies d v u)) arcs ∙ c.in_ok-take_arcs.ensures.ok u))

use Rattle.std.proofs.Common.{rules, ◌++◌, ◌+◌, ◌∷◌, [], map, filter, arith}
use Rattle.sgb_ops.specs.inner.Copies.{copies_end}
use Rattle.sgb_ops.specs.inner.Induced.{event_between, events_of_arc, is_met, wanted}
use Rattle.sgb_ops.proofs.EntryTotals.{copies_between}
use Rattle.sgb_ops.proofs.WantedEvents.{wanted_more, events_met, met_more}
use Rattle.sgb_ops.proofs.induced_graphs.events.push_to_copies.Goals as goal

pub loop-t-init : goal.loop-t-init
loop-t-init c = search (rules, copies_end, wanted, event_between, is_met, copies_between)

pub loop-t-preserved : goal.loop-t-preserved
loop-t-preserved c =
    let copies = c.args.copies.now in
    let a = c.args.arc in
    let t = c.loop-t.t in
    let d = c.args.flags.directed in
    let self = c.args.flags.self_loops in
    let v = c.args.v in
    let u = c.args.u in
    let last = copies_end copies a.tip in
    wanted_more self c.loop-t.events.items c.push_met.new.events.items (map (event_between u a.len) (filter (is_met d v u a.tip) (t ∷ []))) (events_met d v u a last (t + 1)) (events_met d v u a last t)
    (c.args.events.now.items ++ wanted self (events_of_arc copies d v u a))
    (met_more d v u a last t (omega (arith, c.end-t-end.ensures.value))) c.loop-t.invariant c.in_ok-push_met.ensures.ok

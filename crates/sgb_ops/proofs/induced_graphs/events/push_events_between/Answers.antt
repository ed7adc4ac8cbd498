use Rattle.std.proofs.Common.{◌++◌, ◌+◌, length, ap, arith, flat_map}
use Rattle.sgb_ops.specs.Induced.{events_between}
use Rattle.sgb_ops.specs.inner.Induced.{events_of_copies, wanted}
use Rattle.sgb_ops.proofs.PlainLists.{parts_all, places-none}
use Rattle.sgb_ops.proofs.WantedEvents.{wanted_more, events_until, until_more}
use Rattle.sgb_ops.proofs.induced_graphs.events.push_events_between.Goals as goal

pub loop-v-preserved : goal.loop-v-preserved
loop-v-preserved c =
    let g = c.args.graph.now in
    let n = length g.vertices in
    let v = c.loop-v.v in
    let self = c.args.flags.self_loops in
    let events = events_of_copies g c.args.copies.now c.args.flags.directed in
    wanted_more self c.loop-v.events.items c.push_from_copies.new.events.items (events v) (events_until events n (v + 1)) (events_until events n v)
    (c.args.events.now.items ++ wanted self (events_between g c.args.copies.now c.args.flags.directed))
    (until_more events n v (omega arith)) c.loop-v.invariant c.in_ok-push_from_copies.ensures.ok

pub returns-clause-ok : goal.returns-clause-ok
returns-clause-ok c =
    let g = c.args.graph.now in
    let events = flat_map (events_of_copies g c.args.copies.now c.args.flags.directed) in
    parts_all c.loop-v.events.items _ _ (ap (λ places. wanted c.args.flags.self_loops (events places)) (places-none (length g.vertices) c.loop-v.v (omega arith))) c.loop-v.invariant

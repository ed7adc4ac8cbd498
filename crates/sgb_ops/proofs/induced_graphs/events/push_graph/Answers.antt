use Rattle.std.proofs.Common.{◌++◌, ◌+◌, length, ap, arith, flat_map}
use Rattle.sgb_ops.specs.declared.induced_graphs.entries.Entry.TheVariants as entry
use Rattle.sgb_ops.specs.Entries.{inner_events}
use Rattle.sgb_ops.specs.inner.Entries.{inner_events_from}
use Rattle.sgb_ops.specs.inner.Induced.{wanted}
use Rattle.sgb_ops.proofs.PlainLists.{parts_all, places-none}
use Rattle.sgb_ops.proofs.WantedEvents.{wanted_more, events_until, until_more}
use Rattle.sgb_ops.proofs.induced_graphs.events.push_graph.Goals as goal

pub loop-w-preserved : goal.loop-w-preserved
loop-w-preserved c =
    let g = c.args.inner.now in
    let n = length g.vertices in
    let w = c.loop-w.w in
    let self = c.args.flags.self_loops in
    let events = inner_events_from c.args.flags.directed c.args.start g in
    wanted_more self c.loop-w.events.items c.push_inner_arcs.new.events.items (events w) (events_until events n (w + 1)) (events_until events n w)
    (c.args.events.now.items ++ wanted self (inner_events c.args.flags.directed c.args.start (entry.Graph g)))
    (until_more events n w (omega arith)) c.loop-w.invariant c.in_ok-push_inner_arcs.ensures.ok

pub returns-clause-ok : goal.returns-clause-ok
returns-clause-ok c =
    let g = c.args.inner.now in
    let events = flat_map (inner_events_from c.args.flags.directed c.args.start g) in
    parts_all c.loop-w.events.items _ _ (ap (λ places. wanted c.args.flags.self_loops (events places)) (places-none (length g.vertices) c.loop-w.w (omega arith))) c.loop-w.invariant

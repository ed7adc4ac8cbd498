use Rattle.sgb_vec.proofs.Common.{◌+◌, drop, ap, arith, drop_all, drop_more, flat_map}
use Rattle.sgb_ops.specs.inner.Induced.{events_of_arc, wanted}
use Rattle.sgb_ops.proofs.PlainLists.{parts_all}
use Rattle.sgb_ops.proofs.TallyLemmas.{no_arc}
use Rattle.sgb_ops.proofs.WantedEvents.{wanted_more}
use Rattle.sgb_ops.proofs.induced_graphs.events.push_from_copy.Goals as goal

pub loop-arc-preserved : goal.loop-arc-preserved
loop-arc-preserved c =
    let arcs = c.args.arcs.now in
    let i = c.loop-arc.arc-index in
    let events = flat_map (events_of_arc c.args.copies.now c.args.flags.directed c.args.v c.args.u) in
    wanted_more c.args.flags.self_loops c.loop-arc.events.items _ _ (events (drop (i + 1) arcs)) (events (drop i arcs)) _ (ap events (drop_more arcs i no_arc (omega arith))) c.loop-arc.invariant c.in_ok-push_to_copies.ensures.ok

pub returns-clause-ok : goal.returns-clause-ok
returns-clause-ok c =
    let events = flat_map (events_of_arc c.args.copies.now c.args.flags.directed c.args.v c.args.u) in
    parts_all c.loop-arc.events.items _ _ (ap (λ arcs. wanted c.args.flags.self_loops (events arcs)) (drop_all c.loop-arc.arc-index c.args.arcs.now (omega arith))) c.loop-arc.invariant

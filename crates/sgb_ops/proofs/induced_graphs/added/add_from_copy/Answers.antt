use Rattle.sgb_vec.proofs.Common.{rules, ◌+◌, drop, flat_map, ap, arith, drop_more}
use Rattle.sgb_ops.specs.inner.Induced.{events_of_arc, wanted}
use Rattle.sgb_ops.proofs.WantedEvents.{wanted_added}
use Rattle.sgb_ops.proofs.induced_graphs.added.add_from_copy.Goals as goal

pub loop-arc-preserved : goal.loop-arc-preserved
loop-arc-preserved c =
    let arcs = c.args.arcs.now in
    let i = c.loop-arc.arc-index in
    let d = c.args.flags.directed in
    let self = c.args.flags.self_loops in
    let events = events_of_arc c.args.copies.now d c.args.v c.args.u in
    wanted_added self d c.args.built.now c.loop-arc.built c.add_to_copies.new.built _ (flat_map events (drop (i + 1) arcs)) (flat_map events (drop i arcs))
    (wanted self (flat_map events arcs)) (ap (flat_map events) (drop_more arcs i _ (omega arith))) c.loop-arc.invariant c.in_ok-add_to_copies.ensures.ok

use Rattle.std.proofs.Common.{◌∙◌, ap, subst, refl, arith, flat_map}
use Rattle.sgb_graph.specs.Growth.{AddsEvents}
use Rattle.sgb_graph.specs.Vertices.{order_of}
use Rattle.sgb_ops.specs.inner.Complement.{complement_events_from, events_to}
use Rattle.sgb_ops.proofs.CopiedArcs.{among_within, copied_from}
use Rattle.sgb_ops.proofs.Places.{place_added, places_added}
use Rattle.sgb_ops.proofs.complements.Wanted.add_copied_arcs.Goals as goal

pub loop-u-preserved : goal.loop-u-preserved
loop-u-preserved c =
    let wanted = c.args.self in
    let g = c.args.graph.now in
    let u = c.loop-u.u in
    let tips = c.put_tips.new.tips.items in
    let copied = copied_from g wanted.copy wanted.self_loops wanted.directed u tips c.requires.copy c.in_ok-put_tips.ensures.rise c.in_ok-put_tips.ensures.arcs (λ w. among_within (order_of g) w tips c.in_ok-put_tips.ensures.within) in
    let added = subst (AddsEvents wanted.directed c.loop-u.built c.add_arcs_to.new.built) (ap (events_to wanted.copy wanted.self_loops wanted.directed u) c.as_slice.ensures.value ∙ copied) c.in_ok-add_arcs_to.ensures.ok in
    place_added wanted.directed c.args.built.now c.loop-u.built (flat_map (complement_events_from g wanted.copy wanted.self_loops wanted.directed)) (order_of g) u c.add_arcs_to.new.built _ (omega arith) c.loop-u.invariant added refl

pub returns-clause-ok : goal.returns-clause-ok
returns-clause-ok c =
    let wanted = c.args.self in
    let g = c.args.graph.now in
    places_added wanted.directed c.args.built.now c.loop-u.built (flat_map (complement_events_from g wanted.copy wanted.self_loops wanted.directed)) (order_of g) c.loop-u.u (omega arith) c.loop-u.invariant refl

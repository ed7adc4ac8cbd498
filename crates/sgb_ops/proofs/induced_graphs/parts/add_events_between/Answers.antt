use Rattle.std.proofs.Common.{◌∙◌, subst, refl, arith, flat_map}
use Rattle.sgb_graph.specs.Growth.{AddsEvents}
use Rattle.sgb_graph.specs.Vertices.{order_of}
use Rattle.sgb_ops.proofs.InducedParts.{between_left, vertex_part}
use Rattle.sgb_ops.proofs.Places.{place_added, places_added}
use Rattle.sgb_ops.proofs.induced_graphs.parts.add_events_between.Goals as goal

pub add_from_copies-requires-clause-size : goal.add_from_copies-requires-clause-size
add_from_copies-requires-clause-size c = c.loop-v.invariant.added.rest.size ∙ c.requires.size

pub loop-v-preserved : goal.loop-v-preserved
loop-v-preserved c =
    let flags = c.args.flags in
    let g = c.args.graph.now in
    place_added flags.directed c.args.built.now c.loop-v.built (flat_map (vertex_part flags.self_loops flags.multi g c.args.copies.now flags.directed)) (order_of g) c.loop-v.v c.add_from_copies.new.built _
    (omega arith) c.loop-v.invariant c.in_ok-add_from_copies.ensures.ok refl

pub returns-clause-ok : goal.returns-clause-ok
returns-clause-ok c =
    let flags = c.args.flags in
    let d = flags.directed in
    let g = c.args.graph.now in
    let copies = c.args.copies.now in
    subst (AddsEvents d c.args.built.now c.loop-v.built) (between_left g copies d c.requires.numbered c.requires.own flags.self_loops flags.multi)
    (places_added d c.args.built.now c.loop-v.built (flat_map (vertex_part flags.self_loops flags.multi g copies d)) (order_of g) c.loop-v.v (omega (arith, c.n-v-end.ensures.count)) c.loop-v.invariant refl)

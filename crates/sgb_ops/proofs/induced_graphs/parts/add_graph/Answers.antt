use Rattle.std.proofs.Common.{rules, ◌∙◌, ap, subst, refl, arith, flat_map}
use Rattle.sgb_graph.specs.Growth.{AddsEvents}
use Rattle.sgb_ops.specs.Merged.{merged_unless}
use Rattle.sgb_graph.specs.Vertices.{order_of}
use Rattle.sgb_ops.specs.inner.Ends.{AllWithin}
use Rattle.sgb_ops.proofs.InducedParts.{graph_left, graph_part, part_within}
use Rattle.sgb_ops.proofs.Places.{place_added, places_added}
use Rattle.sgb_ops.proofs.induced_graphs.parts.add_graph.Goals as goal

pub add_part-requires-clause-within : goal.add_part-requires-clause-within
add_part-requires-clause-within c = search (rules, AllWithin, part_within)

pub loop-w-preserved : goal.loop-w-preserved
loop-w-preserved c =
    let multi = c.args.flags.multi in
    let d = c.args.flags.directed in
    let g = c.args.inner.now in
    let added = subst (AddsEvents d c.loop-w.built c.add_part.new.built) (ap (merged_unless multi d) (c.deref.ensures.value ∙ c.in_ok-put_events_inside.ensures.ok)) c.in_ok-add_part.ensures.ok in
    place_added d c.args.built.now c.loop-w.built (flat_map (graph_part c.args.flags.self_loops multi d c.args.start g)) (order_of g) c.loop-w.w c.add_part.new.built _ (omega arith) c.loop-w.invariant added refl

pub returns-clause-ok : goal.returns-clause-ok
returns-clause-ok c = search (rules, graph_part, AddsEvents, graph_left, places_added, flat_map, order_of)

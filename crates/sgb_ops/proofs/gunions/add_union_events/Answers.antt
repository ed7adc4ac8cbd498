use Rattle.std.proofs.Common.{rules, ◌≡◌, ◌<◌, ◌∙◌, length, ap, subst, refl, arith, flat_map}
use Rattle.sgb_graph.specs.Growth.{AddsEvents}
use Rattle.sgb_ops.specs.Merged.{merged_unless}
use Rattle.sgb_graph.specs.Vertices.{order_of}
use Rattle.sgb_ops.proofs.Places.{place_added, places_added}
use Rattle.sgb_ops.proofs.UnionEvents.{all_left, left_of, left_within}
use Rattle.sgb_ops.proofs.gunions.add_union_events.Goals as goal

pub add_events-requires-clause-within : goal.add_events-requires-clause-within
add_events-requires-clause-within c =
    let g = c.args.first.now in
    let within : c.loop-v.v < order_of g = omega (arith, c.n-v-end.ensures.count) in
    let size : length c.loop-v.built.vertices ≡ order_of g = search rules in
    left_within g c.args.second.now c.args.directed c.loop-v.v c.n-v-end.ensures.tips within c.args.multi (length c.loop-v.built.vertices) c.in_ok-all.all.items _ size
    (c.deref.ensures.value ∙ c.in_ok-events.ensures.ok) c.in_ok-all.ensures.ok

pub loop-v-preserved : goal.loop-v-preserved
loop-v-preserved c =
    let multi = c.args.multi in
    let d = c.args.directed in
    let g = c.args.first.now in
    let left = c.deref.ensures.value ∙ (c.in_ok-events.ensures.ok ∙ ap (merged_unless multi d) c.in_ok-all.ensures.ok) in
    place_added d c.args.built.now c.loop-v.built (flat_map (left_of g c.args.second.now multi d)) (order_of g) c.loop-v.v c.add_events.new.built _ (omega arith) c.loop-v.invariant
    (subst (AddsEvents d c.loop-v.built c.add_events.new.built) left c.in_ok-add_events.ensures.ok) refl

pub returns-clause-ok : goal.returns-clause-ok
returns-clause-ok c =
    let g = c.args.first.now in
    let h = c.args.second.now in
    let d = c.args.directed in
    subst (AddsEvents d c.args.built.now c.loop-v.built) (all_left g h c.args.multi d)
    (places_added d c.args.built.now c.loop-v.built (flat_map (left_of g h c.args.multi d)) (order_of g) c.loop-v.v (omega (arith, c.n-v-end.ensures.count)) c.loop-v.invariant refl)

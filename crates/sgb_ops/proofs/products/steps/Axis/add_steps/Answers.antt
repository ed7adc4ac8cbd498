use Rattle.std.proofs.Common.{◌∙◌, ap, map, arith, refl, subst, flat_map}
use Rattle.sgb_graph.specs.Growth.{AddsEvents}
use Rattle.sgb_graph.specs.Vertices.{order_of}
use Rattle.sgb_taken.specs.Taken.{taken}
use Rattle.sgb_ops.specs.inner.Sources.{bare}
use Rattle.sgb_ops.specs.inner.Steps.{steps_by}
use Rattle.sgb_ops.proofs.Places.{place_added, places_added}
use Rattle.sgb_ops.proofs.Steps.{same_steps}
use Rattle.sgb_ops.proofs.products.steps.Axis.add_steps.Goals as goal

pub loop-v-preserved : goal.loop-v-preserved
loop-v-preserved c =
    let g = c.args.along.now in
    let d = c.args.directed in
    let v = c.loop-v.v in
    let n = order_of g in
    let added = subst (AddsEvents d c.loop-v.built c.add_steps_by.new.built)
    (same_steps c.args.self n c.args.beside v (taken d g v) c.deref.result.now (ap (map bare) c.deref.ensures.value ∙ c.in_ok-take.ensures.ok)) (rw c.n-n.ensures.count at c.in_ok-add_steps_by.ensures.ok) in
    place_added d c.args.built.now c.loop-v.built (flat_map (λ u. steps_by c.args.self n c.args.beside u (taken d g u))) n v c.add_steps_by.new.built _ (omega arith) c.loop-v.invariant added refl

pub returns-clause-ok : goal.returns-clause-ok
returns-clause-ok c =
    let g = c.args.along.now in
    let steps = flat_map (λ u. steps_by c.args.self (order_of g) c.args.beside u (taken c.args.directed g u)) in
    places_added c.args.directed c.args.built.now c.loop-v.built steps (order_of g) c.loop-v.v (omega arith) c.loop-v.invariant refl

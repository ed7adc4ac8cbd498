use Rattle.std.proofs.Common.{◌∙◌, ap, map, arith, refl, subst, flat_map}
use Rattle.sgb_graph.specs.Growth.{AddsEvents}
use Rattle.sgb_graph.specs.Vertices.{order_of}
use Rattle.sgb_taken.specs.Taken.{taken}
use Rattle.sgb_ops.specs.inner.Sources.{bare}
use Rattle.sgb_ops.specs.inner.Steps.{both_steps_of_row}
use Rattle.sgb_ops.proofs.Places.{place_added, places_added}
use Rattle.sgb_ops.proofs.Steps.{same_row}
use Rattle.sgb_ops.proofs.products.steps.add_both_steps.Goals as goal

pub loop-x-preserved : goal.loop-x-preserved
loop-x-preserved c =
    let g = c.args.first.now in
    let h = c.args.second.now in
    let d = c.args.directed in
    let x = c.loop-x.x in
    let added = subst (AddsEvents d c.loop-x.built c.add_both_steps_of_row.new.built)
    (same_row h x (taken d g x) c.deref.result.now (ap (map bare) c.deref.ensures.value ∙ c.in_ok-take.ensures.ok)) c.in_ok-add_both_steps_of_row.ensures.ok in
    place_added d c.args.built.now c.loop-x.built (flat_map (λ u. both_steps_of_row h u (taken d g u))) (order_of g) x c.add_both_steps_of_row.new.built _ (omega arith) c.loop-x.invariant added refl

pub returns-clause-ok : goal.returns-clause-ok
returns-clause-ok c =
    let g = c.args.first.now in
    let steps = flat_map (λ u. both_steps_of_row c.args.second.now u (taken c.args.directed g u)) in
    places_added c.args.directed c.args.built.now c.loop-x.built steps (order_of g) c.loop-x.x (omega arith) c.loop-x.invariant refl

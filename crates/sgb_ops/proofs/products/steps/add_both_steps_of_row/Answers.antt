use Rattle.std.proofs.Common.{◌∙◌, ap, map, arith, refl, sym, subst, flat_map}
use Rattle.sgb_graph.specs.Graphs.{chain_of}
use Rattle.sgb_graph.specs.Growth.{AddsEvents}
use Rattle.sgb_graph.specs.Vertices.{order_of}
use Rattle.sgb_ops.specs.inner.Sources.{bare}
use Rattle.sgb_ops.specs.inner.Steps.{both_steps_by}
use Rattle.sgb_ops.proofs.Places.{place_added, places_added}
use Rattle.sgb_ops.proofs.Steps.{none_to_add, same_both}
use Rattle.sgb_ops.proofs.products.steps.add_both_steps_of_row.Goals as goal

pub returns-then-is_empty-clause-ok : goal.returns-then-is_empty-clause-ok
returns-then-is_empty-clause-ok c =
    none_to_add c.args.directed c.args.built.now c.args.second.now c.args.x c.args.row.now (sym c.is_empty.ensures ∙ c.if-is_empty.true)

pub loop-y-preserved : goal.loop-y-preserved
loop-y-preserved c =
    let h = c.args.second.now in
    let d = c.args.directed in
    let row = c.args.row.now in
    let n = order_of h in
    let y = c.loop-y.y in
    let added = subst (AddsEvents d c.loop-y.built c.add_both_steps_by.new.built)
    (same_both n c.args.x y row row (chain_of h y) c.deref.result.now refl (ap (map bare) c.deref.ensures.value ∙ c.in_ok-take_list.ensures.ok)) (rw c.n-h.ensures.count at c.in_ok-add_both_steps_by.ensures.ok) in
    place_added d c.args.built.now c.loop-y.built (flat_map (λ u. both_steps_by n c.args.x u row (chain_of h u))) n y c.add_both_steps_by.new.built _ (omega arith) c.loop-y.invariant added refl

pub returns-clause-ok : goal.returns-clause-ok
returns-clause-ok c =
    let h = c.args.second.now in
    let steps = flat_map (λ u. both_steps_by (order_of h) c.args.x u c.args.row.now (chain_of h u)) in
    places_added c.args.directed c.args.built.now c.loop-y.built steps (order_of h) c.loop-y.y (omega arith) c.loop-y.invariant refl

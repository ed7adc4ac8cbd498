use Rattle.sgb_vec.proofs.Common.{map, refl, w64, rules, arith, to_z-of_z}
use Rattle.sgb_ops.specs.inner.Steps.{step_along}
use Rattle.sgb_ops.proofs.Places.{place_added, places_added, same_event}
use Rattle.sgb_ops.proofs.products.steps.Axis.add_step.Goals as goal

pub loop-w-preserved : goal.loop-w-preserved
loop-w-preserved c =
    let step = map (step_along c.args.self c.args.along c.args.beside c.args.v c.args.arc) in
    let added = same_event c.args.directed c.loop-w.built c.add_event.new.self _ _ _ _ _ _ c.place.ensures.value c.place-in-loop-w.ensures.value (to_z-of_z w64 c.args.arc.len (search rules)) c.in_ok-add_event.ensures.ok in
    place_added c.args.directed c.args.built.now c.loop-w.built step c.args.beside c.loop-w.w c.add_event.new.self _ (omega arith) c.loop-w.invariant added refl

pub returns-clause-ok : goal.returns-clause-ok
returns-clause-ok c = search (rules, step_along, places_added)

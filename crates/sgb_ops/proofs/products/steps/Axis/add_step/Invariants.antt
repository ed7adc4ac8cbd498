use Rattle.std.proofs.Common.{map}
use Rattle.sgb_ops.specs.inner.Steps.{step_along}
use Rattle.sgb_ops.proofs.Places.{PlacesLeft}
use Rattle.sgb_ops.proofs.products.steps.Axis.add_step.Given as goal

-- the steps beside the vertices from w on are still to come
abbrev pub invariant-loop-w : goal.invariant-loop-w
invariant-loop-w l = PlacesLeft l.directed l.fn.built l.built (map (step_along l.self l.along l.beside l.v l.arc)) l.beside l.w

use Rattle.std.specs.List.{flat_map}
use Rattle.sgb_graph.specs.Vertices.{order_of}
use Rattle.sgb_taken.specs.Taken.{taken}
use Rattle.sgb_ops.specs.inner.Steps.{steps_by}
use Rattle.sgb_ops.proofs.Places.{PlacesLeft}
use Rattle.sgb_ops.proofs.products.steps.Axis.add_steps.Given as goal

-- the steps from the pairs of the vertices from v on are still to come
abbrev pub invariant-loop-v : goal.invariant-loop-v
invariant-loop-v l =
    PlacesLeft l.directed l.fn.built l.built (flat_map (λ u. steps_by l.self (order_of l.along) l.beside u (taken l.directed l.along u))) (order_of l.along) l.v

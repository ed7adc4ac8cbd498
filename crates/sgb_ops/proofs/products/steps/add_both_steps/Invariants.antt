use Rattle.std.specs.List.{flat_map}
use Rattle.sgb_graph.specs.Vertices.{order_of}
use Rattle.sgb_taken.specs.Taken.{taken}
use Rattle.sgb_ops.specs.inner.Steps.{both_steps_of_row}
use Rattle.sgb_ops.proofs.Places.{PlacesLeft}
use Rattle.sgb_ops.proofs.products.steps.add_both_steps.Given as goal

-- the steps from the pairs of the vertices from x on are still to come
abbrev pub invariant-loop-x : goal.invariant-loop-x
invariant-loop-x l =
    PlacesLeft l.directed l.fn.built l.built (flat_map (λ u. both_steps_of_row l.second u (taken l.directed l.first u))) (order_of l.first) l.x

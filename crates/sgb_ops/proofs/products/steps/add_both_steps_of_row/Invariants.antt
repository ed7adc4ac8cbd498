use Rattle.std.specs.List.{flat_map}
use Rattle.sgb_graph.specs.Graphs.{chain_of}
use Rattle.sgb_graph.specs.Vertices.{order_of}
use Rattle.sgb_ops.specs.inner.Steps.{both_steps_by}
use Rattle.sgb_ops.proofs.Places.{PlacesLeft}
use Rattle.sgb_ops.proofs.products.steps.add_both_steps_of_row.Given as goal

-- the steps from the pairs with the vertices from y on are still to come
abbrev pub invariant-loop-y : goal.invariant-loop-y
invariant-loop-y l =
    PlacesLeft l.directed l.fn.built l.built (flat_map (λ u. both_steps_by (order_of l.second) l.x u l.row (chain_of l.second u))) (order_of l.second) l.y

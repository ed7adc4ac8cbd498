use Rattle.std.specs.List.{flat_map}
use Rattle.sgb_graph.specs.Vertices.{order_of}
use Rattle.sgb_ops.proofs.InducedParts.{graph_part}
use Rattle.sgb_ops.proofs.Places.{PlacesLeft}
use Rattle.sgb_ops.proofs.induced_graphs.parts.add_graph.Given as goal

-- the events of the vertices from w on are still to come
abbrev pub invariant-loop-w : goal.invariant-loop-w
invariant-loop-w l = PlacesLeft l.flags.directed l.fn.built l.built (flat_map (graph_part l.flags.self_loops l.flags.multi l.flags.directed l.start l.inner)) (order_of l.inner) l.w

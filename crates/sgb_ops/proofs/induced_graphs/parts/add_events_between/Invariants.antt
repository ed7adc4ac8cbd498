use Rattle.std.specs.List.{flat_map}
use Rattle.sgb_graph.specs.Vertices.{order_of}
use Rattle.sgb_ops.proofs.InducedParts.{vertex_part}
use Rattle.sgb_ops.proofs.Places.{PlacesLeft}
use Rattle.sgb_ops.proofs.induced_graphs.parts.add_events_between.Given as goal

-- the events from the copies of the vertices from v on are still to come
abbrev pub invariant-loop-v : goal.invariant-loop-v
invariant-loop-v l = PlacesLeft l.flags.directed l.fn.built l.built (flat_map (vertex_part l.flags.self_loops l.flags.multi l.graph l.copies l.flags.directed)) (order_of l.graph) l.v

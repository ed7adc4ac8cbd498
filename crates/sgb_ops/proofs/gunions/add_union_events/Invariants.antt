use Rattle.std.specs.List.{flat_map}
use Rattle.sgb_graph.specs.Vertices.{order_of}
use Rattle.sgb_ops.proofs.Places.{PlacesLeft}
use Rattle.sgb_ops.proofs.UnionEvents.{left_of}
use Rattle.sgb_ops.proofs.gunions.add_union_events.Given as goal

-- the events of the vertices from v on are still to come
abbrev pub invariant-loop-v : goal.invariant-loop-v
invariant-loop-v l = PlacesLeft l.directed l.fn.built l.built (flat_map (left_of l.first l.second l.multi l.directed)) (order_of l.first) l.v

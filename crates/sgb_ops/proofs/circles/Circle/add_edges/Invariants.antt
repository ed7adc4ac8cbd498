use Rattle.sgb_vec.proofs.Common.{false, flat_map}
use Rattle.sgb_graph.specs.Vertices.{order_of}
use Rattle.sgb_ops.specs.inner.Circles.{edges_at}
use Rattle.sgb_ops.proofs.Places.{PlacesLeft}
use Rattle.sgb_ops.proofs.circles.Circle.add_edges.Given as goal

-- the edges of the vertices from w on are still to come
abbrev pub invariant-loop-w : goal.invariant-loop-w
invariant-loop-w l = PlacesLeft false l.fn.built l.built (flat_map (edges_at (order_of l.self) l.start)) (order_of l.self) l.w

use Rattle.sgb_graph.specs.Vertices.{order_of}
use Rattle.sgb_ops.proofs.ComplementEvents.{wanted_to}
use Rattle.sgb_ops.proofs.Places.{PlacesLeft}
use Rattle.sgb_ops.proofs.complements.Wanted.add_arcs_from.Given as goal

-- the arcs to the vertices from w on are still to come
abbrev pub invariant-loop-w : goal.invariant-loop-w
invariant-loop-w l =
    let wanted = l.self in
    PlacesLeft wanted.directed l.fn.built l.built (wanted_to l.graph wanted.copy wanted.self_loops wanted.directed l.u) (order_of l.graph) l.w

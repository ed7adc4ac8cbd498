use Rattle.std.specs.List.{flat_map}
use Rattle.sgb_ops.specs.inner.Complement.{complement_events_from}
use Rattle.sgb_graph.specs.Vertices.{order_of}
use Rattle.sgb_ops.proofs.Places.{PlacesLeft}
use Rattle.sgb_ops.proofs.complements.Wanted.add_copied_arcs.Given as goal

-- the arcs from the vertices from u on are still to come
abbrev pub invariant-loop-u : goal.invariant-loop-u
invariant-loop-u l =
    let wanted = l.self in
    PlacesLeft wanted.directed l.fn.built l.built (flat_map (complement_events_from l.graph wanted.copy wanted.self_loops wanted.directed)) (order_of l.graph) l.u

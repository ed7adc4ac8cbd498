use Rattle.std.proofs.Common.{◌≡◌, ℕ, ◌<◌, ◌≤◌, length, slice_index, flat_map}
use Rattle.sgb_ops.specs.inner.Complement.{complement_events_from}
use Rattle.sgb_ops.proofs.Places.{PlacesLeft}
use Rattle.sgb_ops.proofs.complements.Wanted.add_arcs.Given as goal

-- the arcs from the vertices from u on are still to come, and the marks are those of the vertices before u
abbrev pub invariant-loop-u : goal.invariant-loop-u
invariant-loop-u l =
    let wanted = l.self in
    PlacesLeft wanted.directed l.fn.built l.built (flat_map (complement_events_from l.graph wanted.copy wanted.self_loops wanted.directed)) (length l.graph.vertices) l.u
    × (length l.marks.items ≡ length l.graph.vertices)
    × ((w : ℕ) → w < length l.graph.vertices → slice_index l.marks.items w ≤ l.u)

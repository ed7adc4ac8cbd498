use Rattle.std.proofs.Common.{◌≡◌, drop}
use Rattle.std.specs.List.{flat_map}
use Rattle.sgb_gen.specs.Simplexes.{simplex_vectors}
use Rattle.sgb_graph.proofs.AddedEvents.{AddsUpTo}
use Rattle.sgb_gen.proofs.SimplexEvents.{events_to, events_of}
use Rattle.sgb_gen.proofs.accepted.simplexes.Simplex.add_arcs.Given as goal

-- the moves to the vertices from this one on are still to come
abbrev pub invariant-loop-v : goal.invariant-loop-v
invariant-loop-v l =
    (l.left ≡ drop l.v (simplex_vectors l.self))
    × AddsUpTo l.self.directed l.fn.graph l.graph (flat_map (events_to l.self) (drop l.v (simplex_vectors l.self))) (events_of l.self)

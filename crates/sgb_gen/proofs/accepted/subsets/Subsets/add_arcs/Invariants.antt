use Rattle.std.proofs.Common.{◌≡◌, drop}
use Rattle.sgb_gen.specs.Subsets.{subsets_vectors}
use Rattle.sgb_graph.proofs.AddedEvents.{AddsUpTo}
use Rattle.sgb_gen.proofs.SubsetsEvents.{events_from_place}
use Rattle.sgb_gen.proofs.accepted.subsets.Subsets.add_arcs.Given as goal

-- the moves to vector v and to those after it are still to come
abbrev pub invariant-loop-v : goal.invariant-loop-v
invariant-loop-v l =
    (l.left ≡ drop l.v (subsets_vectors l.self))
    × AddsUpTo l.self.directed l.fn.graph l.graph (events_from_place l.self l.v) (events_from_place l.self 0)

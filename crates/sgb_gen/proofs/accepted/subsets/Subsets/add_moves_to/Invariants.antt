use Rattle.std.proofs.Common.{take}
use Rattle.sgb_graph.proofs.AddedEvents.{AddsUpTo}
use Rattle.sgb_gen.specs.Subsets.{subsets_vectors}
use Rattle.sgb_gen.specs.inner.LocalSubsets.{events_onto}
use Rattle.sgb_gen.proofs.accepted.subsets.Subsets.add_moves_to.Given as goal

-- the moves by the first arcs are still to come
abbrev pub invariant-loop-k : goal.invariant-loop-k
invariant-loop-k l =
    AddsUpTo l.self.directed l.fn.graph l.graph (events_onto (subsets_vectors l.self) l.v (take l.k l.links.arcs)) (events_onto (subsets_vectors l.self) l.v l.links.arcs)

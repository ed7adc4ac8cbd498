use Rattle.std.proofs.Common.{length}
use Rattle.sgb_graph.proofs.AddedEvents.{AddsUpTo}
use Rattle.sgb_gen.proofs.SimplexEvents.{events_by, events_to, pairs_after}
use Rattle.sgb_gen.proofs.accepted.simplexes.Simplex.add_moves_to.Given as goal

-- the moves by the pairs with this lower place and later ones are still to come
abbrev pub invariant-loop-lower : goal.invariant-loop-lower
invariant-loop-lower l =
    AddsUpTo l.self.directed l.fn.graph l.graph (events_by l.self l.x (pairs_after (length l.x) l.lower)) (events_to l.self l.x)

use Rattle.std.proofs.Common.{length}
use Rattle.sgb_graph.proofs.AddedEvents.{AddsUpTo}
use Rattle.sgb_gen.specs.inner.Simplexes.{pairs_from}
use Rattle.sgb_gen.proofs.SimplexEvents.{events_by, pairs_left}
use Rattle.sgb_gen.proofs.accepted.simplexes.Simplex.add_moves_from.Given as goal

-- the moves by the pairs with this higher place and later ones are still to come
abbrev pub invariant-loop-higher : goal.invariant-loop-higher
invariant-loop-higher l =
    AddsUpTo l.self.directed l.fn.graph l.graph
    (events_by l.self l.x (pairs_left (length l.x) l.lower l.higher)) (events_by l.self l.x (pairs_from (length l.x) l.lower))

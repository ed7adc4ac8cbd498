use Rattle.std.proofs.Common.{◌≡◌, ◌+◌, ◌≤◌, length}
use Rattle.sgb_gen.specs.inner.LocalSimplexes.{arcs_back, pairs_down}
use Rattle.sgb_gen.proofs.ArcsInTurn.{TakenSoFar}
use Rattle.sgb_gen.proofs.accepted.simplexes.lists.push_back_to.Given as goal

-- the arcs by the pairs with the higher places that are left are still to come
abbrev pub invariant-loop-higher : goal.invariant-loop-higher
invariant-loop-higher g l =
    (l.lower + 1 ≤ l.higher)
    × (l.tip ≡ l.fn.tip)
    × TakenSoFar (g.K.ArcSink.took l.sink) (arcs_back l.bounds l.fn.tip (pairs_down (length l.fn.tip) l.lower)) (arcs_back l.bounds l.fn.tip (pairs_down l.higher l.lower)) l.fn.room l.fn.out l.room l.out
    × g.K.ArcSink.ready l.sink l.room l.out

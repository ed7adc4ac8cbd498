use Rattle.std.proofs.Common.{◌≡◌, ◌-◌, length}
use Rattle.std.specs.List.{flat_map, range_with_len}
use Rattle.sgb_gen.specs.inner.LocalSimplexes.{arcs_back, pairs_back, pairs_down}
use Rattle.sgb_gen.proofs.ArcsInTurn.{TakenSoFar}
use Rattle.sgb_gen.proofs.accepted.simplexes.lists.push_back.Given as goal

-- the arcs by the pairs with the lower places that are left are still to come
abbrev pub invariant-loop-lower : goal.invariant-loop-lower
invariant-loop-lower g l =
    (l.tip ≡ l.fn.tip)
    × TakenSoFar (g.K.ArcSink.took l.sink) (arcs_back l.bounds l.fn.tip (pairs_back (length l.fn.tip)))
    (arcs_back l.bounds l.fn.tip (flat_map (pairs_down (length l.fn.tip)) (range_with_len l.lower (length l.fn.tip - l.lower)))) l.fn.room l.fn.out l.room l.out
    × g.K.ArcSink.ready l.sink l.room l.out

use Rattle.std.proofs.Common.{◌≡◌, length, reverse}
use Rattle.std.specs.List.{flat_map, range_with_len}
use Rattle.sgb_gen.specs.Simplexes.{pairs_of_places}
use Rattle.sgb_gen.specs.inner.LocalSimplexes.{arcs_on}
use Rattle.sgb_gen.specs.inner.Simplexes.{pairs_from}
use Rattle.sgb_gen.proofs.ArcsInTurn.{TakenSoFar}
use Rattle.sgb_gen.proofs.accepted.simplexes.lists.push_on.Given as goal

-- the arcs by the pairs with the lower places that are left are still to come
abbrev pub invariant-loop-lower : goal.invariant-loop-lower
invariant-loop-lower g l =
    (l.tip ≡ l.fn.tip)
    × TakenSoFar (g.K.ArcSink.took l.sink) (arcs_on l.bounds l.fn.tip (reverse (pairs_of_places (length l.fn.tip))))
    (arcs_on l.bounds l.fn.tip (reverse (flat_map (pairs_from (length l.fn.tip)) (range_with_len 0 l.lower)))) l.fn.room l.fn.out l.room l.out
    × g.K.ArcSink.ready l.sink l.room l.out

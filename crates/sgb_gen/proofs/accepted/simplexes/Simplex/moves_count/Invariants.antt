use Rattle.std.proofs.Common.{◌≡◌, ◌≤◌, ◌+◌, ◌*◌, length}
use Rattle.sgb_vec.specs.Limits.{most_dimensions, most_vertices}
use Rattle.sgb_gen.specs.Simplexes.{pairs_of_places}
use Rattle.sgb_gen.specs.inner.SimplexCounts.{shifts_by, AreKnown}
use Rattle.sgb_gen.proofs.SimplexEvents.{pairs_after}
use Rattle.sgb_gen.proofs.accepted.simplexes.Simplex.moves_count.Given as goal

-- the pairs with this lower place and later ones are still to be counted
abbrev pub invariant-loop-lower : goal.invariant-loop-lower
invariant-loop-lower l =
    (l.counted + shifts_by l.self.sum (pairs_after (length l.self.sum.bounds) l.lower)
    ≡ shifts_by l.self.sum (pairs_of_places (length l.self.sum.bounds)))
    × (l.counted ≤ l.lower * ((most_dimensions + 1) * most_vertices)) × AreKnown l.self.sum l.known.items

use Rattle.std.proofs.Common.{◌≡◌, ◌≤◌, ◌+◌, ◌*◌, length}
use Rattle.sgb_vec.specs.Limits.{most_vertices}
use Rattle.sgb_gen.specs.inner.Simplexes.{pairs_from}
use Rattle.sgb_gen.specs.inner.SimplexCounts.{shifts_by, AreKnown}
use Rattle.sgb_gen.proofs.SimplexEvents.{pairs_left}
use Rattle.sgb_gen.proofs.accepted.simplexes.Simplex.shifts_from.Given as goal

-- the pairs with this higher place and later ones are still to be counted
abbrev pub invariant-loop-higher : goal.invariant-loop-higher
invariant-loop-higher l =
    (l.counted + shifts_by l.self.sum (pairs_left (length l.self.sum.bounds) l.lower l.higher)
    ≡ shifts_by l.self.sum (pairs_from (length l.self.sum.bounds) l.lower))
    × (l.counted ≤ l.higher * most_vertices) × AreKnown l.self.sum l.known.items

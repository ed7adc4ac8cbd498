use Rattle.std.proofs.Common.{◌≡◌, ◌+◌, take, drop, reverse}
use Rattle.sgb_vec.specs.Sums.{bounded_sums}
use Rattle.sgb_gen.specs.inner.Descents.{arcs_under, front_of}
use Rattle.sgb_gen.proofs.ArcsInTurn.{TakenSoFar}
use Rattle.sgb_gen.proofs.accepted.subsets.last_entries.push_units.Given as goal

-- the arcs by the places that are left are still to come
abbrev pub invariant-loop-i : goal.invariant-loop-i
invariant-loop-i g l =
    (l.tip ≡ l.fn.tip)
    × TakenSoFar (g.K.ArcSink.took l.sink) (arcs_under l.begun.size_bits (front_of l.fn.tip l.x) l.begun.common l.x (reverse (bounded_sums l.begun.left l.bounds)))
    (arcs_under l.begun.size_bits (take (l.start + l.i) l.fn.tip) l.begun.common (drop l.i l.x) (reverse (bounded_sums 1 (drop l.i l.bounds)))) l.fn.room l.fn.out l.room l.out
    × g.K.ArcSink.ready l.sink l.room l.out

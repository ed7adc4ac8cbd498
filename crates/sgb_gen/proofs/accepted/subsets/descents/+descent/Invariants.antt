use Rattle.std.proofs.Common.{◌≡◌, ◌+◌, ◌-◌, ◌*◌, ◌≤◌, ◌∷◌, length, drop, reverse}
use Rattle.sgb_vec.specs.Sums.{bounded_sums}
use Rattle.sgb_gen.specs.inner.Descents.{IsBegun, arcs_under, front_of, rows}
use Rattle.sgb_gen.proofs.ArcsInTurn.{TakenSoFar}
use Rattle.sgb_gen.proofs.accepted.subsets.descents.+descent.Given as goal

abbrev pub decreases-push_all : goal.decreases-push_all
decreases-push_all g l = 3 * length l.x.now

abbrev pub decreases-push_greater : goal.decreases-push_greater
decreases-push_greater g l = 3 * length l.x.now + 2

abbrev pub decreases-push_rows : goal.decreases-push_rows
decreases-push_rows g l = 3 * length l.x.now + 1

-- the arcs by the entries that are left are still to come
abbrev pub invariant-push_rows-loop-k : goal.invariant-push_rows-loop-k
invariant-push_rows-loop-k g l =
    (front_of l.tip (l.own ∷ l.x) ≡ front_of l.fn.tip (l.own ∷ l.x))
    × TakenSoFar (g.K.ArcSink.took l.sink) (arcs_under l.begun.size_bits (front_of l.fn.tip (l.own ∷ l.x)) l.begun.common (l.own ∷ l.x) (rows l.begun.left l.bounds l.entries.least l.entries.count))
    (arcs_under l.begun.size_bits (front_of l.fn.tip (l.own ∷ l.x)) l.begun.common (l.own ∷ l.x) (rows l.begun.left l.bounds l.entries.least l.k)) l.fn.room l.fn.out l.room l.out
    × g.K.ArcSink.ready l.sink l.room l.out

-- the arcs to those that begin as far as this are still to come
abbrev pub invariant-push_all-loop-state : goal.invariant-push_all-loop-state
invariant-push_all-loop-state g l =
    (l.i ≤ length l.x)
    × (length l.x ≡ length l.bounds)
    × (l.state.size_bits ≡ l.fn.begun.size_bits)
    × IsBegun (drop l.i l.bounds) (drop l.i l.x) l.state.room l.state.shared l.state.left l.state.common
    × (front_of l.tip l.x ≡ front_of l.fn.tip l.x)
    × TakenSoFar (g.K.ArcSink.took l.sink) (arcs_under l.fn.begun.size_bits (front_of l.fn.tip l.x) l.fn.begun.common l.x (reverse (bounded_sums l.fn.begun.left l.bounds)))
    (arcs_under l.state.size_bits (front_of l.tip (drop l.i l.x)) l.state.common (drop l.i l.x) (reverse (bounded_sums l.state.left (drop l.i l.bounds)))) l.fn.room l.fn.out l.room l.out
    × g.K.ArcSink.ready l.sink l.room l.out

abbrev pub decreases-push_all-loop-state : goal.decreases-push_all-loop-state
decreases-push_all-loop-state g l = length l.x - l.i

use Rattle.std.proofs.Common.{◌≡◌, length}
use Rattle.sgb_taken.specs.inner.TakenArcs.{taken_after}
use Rattle.sgb_taken.proofs.taken_arcs.TakenArcsIterator.next.Given as goal

-- the arcs that are passed over change nothing
abbrev pub invariant-loop-link : goal.invariant-loop-link
invariant-loop-link l = taken_after l.self-inside.directed l.self-inside.vertex l.self-inside.after_loop l.self-inside.arcs ≡ l.fn.self

abbrev pub decreases-loop-link : goal.decreases-loop-link
decreases-loop-link l = length l.self-inside.arcs

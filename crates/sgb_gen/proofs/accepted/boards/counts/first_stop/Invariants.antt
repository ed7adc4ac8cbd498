use Rattle.std.proofs.Common.{◌≡◌, ◌<◌, ◌≤◌, ℕ, false}
use Rattle.sgb_gen.specs.inner.BoardCounts.{stops_at}
use Rattle.sgb_gen.proofs.accepted.boards.counts.first_stop.Given as goal

-- none of the sides so far stops it
abbrev pub invariant-loop-k : goal.invariant-loop-k
invariant-loop-k l =
    (l.from ≤ l.k) × ((j : ℕ) → l.from ≤ j → j < l.k → stops_at l.wrap l.t j ≡ false)

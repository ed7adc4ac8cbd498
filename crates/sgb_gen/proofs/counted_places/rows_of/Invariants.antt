use Rattle.std.proofs.Common.{◌≡◌, length}
use Rattle.sgb_gen.specs.inner.KeptCounts.{HaveCounts}
use Rattle.sgb_gen.proofs.counted_places.rows_of.Given as goal

-- the rows so far
abbrev pub invariant-loop-j : goal.invariant-loop-j
invariant-loop-j l = HaveCounts l.total l.rows.items l.bounds × (length l.rows.items ≡ l.j)

use Rattle.std.proofs.Common.{◌≡◌, ℕ, length, drop, None}
use Rattle.sgb_ops.specs.inner.Tallies.{tally_at, tally_to}
use Rattle.sgb_ops.proofs.tallies.take_out.Given as goal

-- what stands in the table is of the arcs that are to come
abbrev pub invariant-loop-arc : goal.invariant-loop-arc
invariant-loop-arc l =
    (length l.tallies ≡ length l.fn.tallies)
    × ((u : ℕ) → tally_to u (drop l.arc-index l.arcs) ≡ None → tally_at l.tallies u ≡ None)

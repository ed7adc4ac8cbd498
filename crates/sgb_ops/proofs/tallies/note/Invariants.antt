use Rattle.std.proofs.Common.{◌≡◌, ℕ, length, take}
use Rattle.sgb_ops.specs.inner.Tallies.{tally_at, tally_to}
use Rattle.sgb_ops.proofs.tallies.note.Given as goal

-- the arcs so far are noted
abbrev pub invariant-loop-arc : goal.invariant-loop-arc
invariant-loop-arc l = (length l.tallies ≡ length l.fn.tallies) × ((u : ℕ) → tally_at l.tallies u ≡ tally_to u (take l.arc-index l.arcs))

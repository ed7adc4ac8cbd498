use Rattle.std.proofs.Common.{◌≡◌, ℕ, length, None}
use Rattle.sgb_ops.specs.inner.Tallies.{tally_at}
use Rattle.sgb_ops.proofs.tallies.make_room.Given as goal

-- there are as many places as were counted, and nothing stands in them
abbrev pub invariant-loop-u : goal.invariant-loop-u
invariant-loop-u l = (length l.tallies.items ≡ l._u) × ((u : ℕ) → tally_at l.tallies.items u ≡ None)

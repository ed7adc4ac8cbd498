use Rattle.std.proofs.Common.{◌<◌, ◌≤◌, ℕ, pos, nat_abs, slice_index_or}
use Rattle.sgb_gen.proofs.displacement_tables.KeptPair.widest.Given as goal

-- no entry before this one is greater
abbrev pub invariant-loop-entry : goal.invariant-loop-entry
invariant-loop-entry l = (j : ℕ) → j < l.entry-index → nat_abs (slice_index_or l.entry-items j (pos 0)) ≤ l.widest

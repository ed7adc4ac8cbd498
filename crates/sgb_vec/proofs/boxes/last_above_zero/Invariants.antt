use Rattle.std.proofs.Common.{◌≡◌, ℕ, ◌+◌, ◌<◌, ◌≤◌, length, slice_index}
use Rattle.sgb_vec.proofs.boxes.last_above_zero.Given as goal

-- the entries from the place on are 0
abbrev pub invariant-loop-place : goal.invariant-loop-place
invariant-loop-place l = ((k : ℕ) → l.place ≤ k → k < length l.entries → slice_index l.entries k ≡ 0) × (l.steps + l.place ≡ l.fn.steps + length l.entries)

use Rattle.std.proofs.Common.{◌≡◌, ℕ, ◌+◌, ◌<◌, ◌≤◌, length, slice_index}
use Rattle.sgb_vec.proofs.boxes.last_below_top.Given as goal

-- the entries from the place on are at their top
abbrev pub invariant-loop-place : goal.invariant-loop-place
invariant-loop-place l = ((k : ℕ) → l.place ≤ k → k < length l.entries → slice_index l.entries k + 1 ≡ slice_index l.sizes k) × (l.steps + l.place ≡ l.fn.steps + length l.entries)

use Rattle.std.proofs.Common.{◌≡◌, ◌<◌, ◌+◌, ℕ, length, slice_index}
use Rattle.sgb_vec.proofs.boxes.put_tops.Given as goal

-- the entries before the place are at their top
abbrev pub invariant-loop-place : goal.invariant-loop-place
invariant-loop-place l = (length l.entries ≡ length l.fn.entries) × ((k : ℕ) → k < l.place → slice_index l.entries k + 1 ≡ slice_index l.sizes k) × (l.steps ≡ l.fn.steps + l.place)

use Rattle.std.proofs.Common.{◌<◌, ◌≤◌, ◌+◌, ℕ, get_or}
use Rattle.sgb_moves.proofs.moves.is_inside.Given as goal

-- the coordinates before this one have that room
abbrev pub invariant-loop-k : goal.invariant-loop-k
invariant-loop-k l = (j : ℕ) → j < l.k → (l.room ≤ get_or l.x j 0) × (get_or l.x j 0 + l.room < get_or l.sizes j 0)

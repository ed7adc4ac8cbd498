use Rattle.std.proofs.Common.{◌≡◌, ◌+◌, ◌++◌, replicate, drop}
use Rattle.sgb_vec.proofs.boxes.clear.Given as goal

-- so many zeros, and then what was there
abbrev pub invariant-loop-place : goal.invariant-loop-place
invariant-loop-place l = (l.entries ≡ replicate l.place 0 ++ drop l.place l.fn.entries) × (l.steps ≡ l.fn.steps + l.place)

use Rattle.std.proofs.Common.{◌≡◌, ℕ, ◌+◌, ◌-◌, ◌<◌, ◌≤◌, length, get_or}
use Rattle.sgb_vec.proofs.sums.counts.take_off.Given as goal

-- the entries from the place on are done, those before it or below the width are as they were
abbrev pub invariant-loop-place : goal.invariant-loop-place
invariant-loop-place l =
    ((k : ℕ) → k < l.place → get_or l.row k 0 ≡ get_or l.initial.row k 0)
    × ((k : ℕ) → k < l.width → get_or l.row k 0 ≡ get_or l.initial.row k 0)
    × ((k : ℕ) → l.place ≤ k → k < length l.initial.row → get_or l.row k 0 + get_or l.initial.row (k - l.width) 0 ≡ get_or l.initial.row k 0)

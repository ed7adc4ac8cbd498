use Rattle.std.proofs.Common.{◌≡◌, ℕ, ◌+◌, ◌<◌, ◌≤◌, take, sum, get_or}
use Rattle.sgb_vec.proofs.sums.counts.add_up.Given as goal

-- the entries before the place have their sums, the others are as they were
abbrev pub invariant-loop-count : goal.invariant-loop-count
invariant-loop-count l =
    (l.total ≡ sum (take l.count-index l.initial.row))
    × ((k : ℕ) → k < l.count-index → get_or l.row k 0 ≡ sum (take (k + 1) l.initial.row))
    × ((k : ℕ) → l.count-index ≤ k → get_or l.row k 0 ≡ get_or l.initial.row k 0)

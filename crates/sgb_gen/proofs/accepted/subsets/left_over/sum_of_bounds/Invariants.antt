use Rattle.std.proofs.Common.{◌≡◌, ◌-◌, ◌^◌, min, take, sum}
use Rattle.sgb_gen.proofs.accepted.subsets.left_over.sum_of_bounds.Given as goal

-- the bounds before this one are added
abbrev pub invariant-loop-bound : goal.invariant-loop-bound
invariant-loop-bound l = l.all ≡ min (sum (take l.bound-index l.bounds)) (2 ^ 64 - 1)

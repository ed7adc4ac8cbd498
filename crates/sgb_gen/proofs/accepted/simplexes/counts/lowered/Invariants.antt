use Rattle.std.proofs.Common.{◌≡◌, take}
use Rattle.sgb_gen.proofs.accepted.simplexes.counts.lowered.Given as goal

-- the bounds so far
abbrev pub invariant-loop-bound : goal.invariant-loop-bound
invariant-loop-bound l = l.less.items ≡ take l.bound-index l.bounds

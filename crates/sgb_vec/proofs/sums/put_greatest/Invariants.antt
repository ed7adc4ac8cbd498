use Rattle.std.proofs.Common.{◌≡◌, ◌+◌}
use Rattle.sgb_vec.proofs.SumTails.{IsFilledUpTo}
use Rattle.sgb_vec.proofs.sums.put_greatest.Given as goal

abbrev pub invariant-loop-place : goal.invariant-loop-place
invariant-loop-place l = IsFilledUpTo l.bounds l.entries l.place l.rest l.total × (l.steps ≡ l.fn.steps + l.place)

use Rattle.std.proofs.Common.{◌≡◌, ◌+◌, length}
use Rattle.sgb_vec.proofs.SumTails.{IsFilledFrom}
use Rattle.sgb_vec.proofs.sums.put_least.Given as goal

abbrev pub invariant-loop-place : goal.invariant-loop-place
invariant-loop-place l = IsFilledFrom l.bounds l.entries l.place l.rest l.total × (l.steps + l.place ≡ l.fn.steps + length l.bounds)

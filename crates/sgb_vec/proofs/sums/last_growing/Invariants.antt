use Rattle.std.proofs.Common.{◌≡◌, ◌+◌, length}
use Rattle.sgb_vec.proofs.SumTails.{IsGreatestFrom}
use Rattle.sgb_vec.proofs.sums.last_growing.Given as goal

abbrev pub invariant-loop-place : goal.invariant-loop-place
invariant-loop-place l = IsGreatestFrom l.bounds l.entries l.place l.after × (l.steps + l.place ≡ l.fn.steps + length l.entries)

use Rattle.std.proofs.Common.{◌≡◌, ◌+◌, length}
use Rattle.sgb_vec.proofs.SumTails.{IsLeastFrom}
use Rattle.sgb_vec.proofs.sums.last_falling.Given as goal

abbrev pub invariant-loop-place : goal.invariant-loop-place
invariant-loop-place l = IsLeastFrom l.bounds l.entries l.place l.after l.has_room × (l.steps + l.place ≡ l.fn.steps + length l.entries)

use Rattle.std.proofs.Common.{◌≡◌, ◌+◌, replicate}
use Rattle.sgb_vec.proofs.entries.put_zeros.Given as goal

abbrev pub invariant-loop-i : goal.invariant-loop-i
invariant-loop-i l = (l.vector.items ≡ replicate l._i 0) × (l.steps ≡ l.fn.steps + l._i)

use Rattle.std.proofs.Common.{◌≡◌, length}
use Rattle.sgb_vec.proofs.BoxDigits.{AreDigits}
use Rattle.sgb_vec.proofs.boxes.put_at.Given as goal

abbrev pub invariant-loop-k : goal.invariant-loop-k
invariant-loop-k l = AreDigits l.sizes l.entries l.k l.rest l.place × (length l.entries ≡ length l.sizes)

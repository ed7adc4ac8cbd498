use Rattle.std.proofs.Common.{◌≡◌, ◌≤◌, ◌++◌, drop, length}
use Rattle.sgb_moves.specs.MovedCoordinates.{parts_from, parts_of}
use Rattle.sgb_moves.proofs.steps.put_parts_of.Given as goal

-- those of the entries from this one on are still to come
abbrev pub invariant-loop-k : goal.invariant-loop-k
invariant-loop-k l = (l.parts.items ++ parts_from l.k (drop l.k l.entries) ≡ parts_of l.entries) × (length l.parts.items ≤ l.k)

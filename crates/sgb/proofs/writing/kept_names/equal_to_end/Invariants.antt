use Rattle.std.proofs.Common.{◌≡◌, ◌≤◌, drop, length}
use Rattle.sgb.proofs.writing.kept_names.equal_to_end.Given as goal

-- the entries from this place on are alike
abbrev pub invariant-loop-to : goal.invariant-loop-to
invariant-loop-to l = (l.from ≤ l.to) × (l.to ≤ length l.a) × (drop l.to l.a ≡ drop l.to l.b)

-- each turn comes nearer to the start
abbrev pub decreases-loop-to : goal.decreases-loop-to
decreases-loop-to l = l.to

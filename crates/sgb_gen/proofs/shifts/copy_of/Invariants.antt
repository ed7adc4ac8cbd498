use Rattle.std.proofs.Common.{◌≡◌, take}
use Rattle.sgb_gen.proofs.shifts.copy_of.Given as goal

-- the entries so far
abbrev pub invariant-loop-entry : goal.invariant-loop-entry
invariant-loop-entry l = l.copy.items ≡ take l.entry-index l.v

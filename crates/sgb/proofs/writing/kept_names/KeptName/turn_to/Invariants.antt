use Rattle.std.proofs.Common.{◌≡◌, ◌+◌, take}
use Rattle.sgb.proofs.writing.kept_names.KeptName.turn_to.Given as goal

-- it is the name of the entries so far
abbrev pub invariant-loop-entry : goal.invariant-loop-entry
invariant-loop-entry l = l.self ≡ take (l.kept + l.entry-index) l.vector

use Rattle.std.proofs.Common.{◌≡◌, ◌++◌, length, drop}
use Rattle.sgb_vec.specs.Sizes.{before_stop}
use Rattle.sgb_vec.proofs.shapes.entries.before_stop.Given as goal

-- those found, with those of the rest, are those of all; each entry so far is one
abbrev pub invariant-loop-entry : goal.invariant-loop-entry
invariant-loop-entry l =
    (l.before.items ++ before_stop (drop l.entry-index l.entries) ≡ before_stop l.entries) × (length l.before.items ≡ l.entry-index)

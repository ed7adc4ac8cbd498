use Rattle.std.proofs.Common.{◌≡◌, drop}
use Rattle.sgb_vec.specs.Sizes.{stop_of}
use Rattle.sgb_vec.proofs.shapes.entries.stop_of.Given as goal

-- the stop is that of the rest
abbrev pub invariant-loop-entry : goal.invariant-loop-entry
invariant-loop-entry l = stop_of (drop l.entry-index l.entries) ≡ stop_of l.entries

use Rattle.std.proofs.Common.{◌≡◌, length, take}
use Rattle.sgb.proofs.writing.kept_names.shorten.Given as goal

abbrev pub invariant-loop-entries : goal.invariant-loop-entries
invariant-loop-entries l = take l.count l.entries.items ≡ take l.count l.initial.entries.items

abbrev pub decreases-loop-entries : goal.decreases-loop-entries
decreases-loop-entries l = length l.entries.items

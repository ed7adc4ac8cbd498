use Rattle.std.proofs.Common.{◌≡◌, drop, max}
use Rattle.sgb_ops.specs.Entries.{merged_count}
use Rattle.sgb_ops.proofs.induced_graphs.entries.merged_count.Given as goal

-- with those that are left it is the greatest of all
abbrev pub invariant-loop-v : goal.invariant-loop-v
invariant-loop-v l = max l.greatest (merged_count (drop l.v l.entries)) ≡ merged_count l.entries

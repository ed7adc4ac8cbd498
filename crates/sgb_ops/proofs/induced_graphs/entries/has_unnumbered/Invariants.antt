use Rattle.sgb_vec.proofs.Common.{◌≡◌, drop, list_any}
use Rattle.sgb_ops.specs.Entries.{is_unnumbered}
use Rattle.sgb_ops.proofs.induced_graphs.entries.has_unnumbered.Given as goal

-- it is told by those that are left
abbrev pub invariant-loop-v : goal.invariant-loop-v
invariant-loop-v l = list_any is_unnumbered (drop l.v l.entries) ≡ list_any is_unnumbered l.entries

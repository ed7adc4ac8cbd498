use Rattle.std.proofs.Common.{◌≡◌, ◌≤◌, ◌++◌, ◌+◌, ◌-◌, drop, length}
use Rattle.std.specs.Vec.{vec_capacity, vec_len}
use Rattle.sgb_gen.proofs.links.push_entries.Given as goal

-- what is put and what is left is all, and there is room for what is left
abbrev pub invariant-loop-entry : goal.invariant-loop-entry
invariant-loop-entry l = (l.entries.items ++ drop l.entry-index l.x ≡ l.fn.entries.items ++ l.x) × (vec_len l.entries + (length l.x - l.entry-index) ≤ vec_capacity l.entries)

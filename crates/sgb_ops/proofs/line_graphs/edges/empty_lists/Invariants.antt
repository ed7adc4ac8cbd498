use Rattle.std.proofs.Common.{◌≡◌, ℕ, [], length}
use Rattle.sgb_ops.specs.inner.LineLists.{list_at}
use Rattle.sgb_ops.proofs.line_graphs.edges.empty_lists.Given as goal

-- each list is empty
abbrev pub invariant-loop-w : goal.invariant-loop-w
invariant-loop-w l = ((w : ℕ) → list_at l.lists.items w ≡ []) × (length l.lists.items ≡ l._w)

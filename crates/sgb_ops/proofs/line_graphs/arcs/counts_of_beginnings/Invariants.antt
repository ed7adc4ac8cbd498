use Rattle.std.proofs.Common.{◌≡◌, ◌≤◌, ◌+◌, ℕ, length, slice_index, take}
use Rattle.sgb_ops.specs.inner.LineRuns.{begin_at}
use Rattle.sgb_ops.proofs.line_graphs.arcs.counts_of_beginnings.Given as goal

-- the lines so far are counted
abbrev pub invariant-loop-line : goal.invariant-loop-line
invariant-loop-line l =
    (length l.counts.items ≡ l.n + 1) × ((u : ℕ) → u ≤ l.n → slice_index l.counts.items u ≡ begin_at u (take l.line-index l.lines))

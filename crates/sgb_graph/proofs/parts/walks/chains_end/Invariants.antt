use Rattle.std.proofs.Common.{◌≡◌, ◌<◌, ℕ, length, true, Some}
use Rattle.sgb_graph.specs.Graphs.{ends_of}
use Rattle.sgb_graph.specs.inner.Walks.{MarksEnd}
use Rattle.sgb_graph.proofs.parts.walks.chains_end.Given as goal

-- the way ends from each record so far, and from each marked one
abbrev pub invariant-loop-k : goal.invariant-loop-k
invariant-loop-k l = record {
  long : length l.marks.items ≡ length l.records.items;
  marked : MarksEnd l.records.items l.marks.items;
  before : (j : ℕ) → j < l.k → ends_of l.records.items (Some j) ≡ true;
}

use Rattle.std.proofs.Common.{◌≡◌, ◌<◌, ℕ, true}
use Rattle.sgb_graph.specs.inner.Walks.{leads_back}
use Rattle.sgb_graph.proofs.parts.walks.lead_back.Given as goal

-- each record so far does
abbrev pub invariant-loop-k : goal.invariant-loop-k
invariant-loop-k l = (j : ℕ) → j < l.k → leads_back l.records.items j ≡ true

use Rattle.std.proofs.Common.{ℕ, List, ◌∷◌}
use Rattle.sgb_gen.specs.inner.KeptCounts.{HasCounts}
use Rattle.sgb_gen.proofs.KeptCounts.{IsCounted}
use Rattle.sgb_gen.proofs.counted_places.CountRow.with_bound.Given as goal

-- the counts so far
abbrev pub invariant-loop-n : goal.invariant-loop-n
invariant-loop-n l =
    (total : ℕ) (after : List ℕ) → HasCounts total l.self after → IsCounted l.n l.before l.counts.items (l.bound ∷ after)

use Rattle.std.proofs.Common.{ℕ, ℤ}
use Rattle.sgb_graph.specs.Draws.{IsAtDraw}
use Rattle.sgb_graph.specs.inner.Flips.{IsFlip}
use Rattle.sgb_graph.proofs.Standing.{HasThrownAway}
use Rattle.sgb_graph.proofs.Waiting.{waiting}
use Rattle.sgb_graph.proofs.flips.Flip.below.Given as goal

-- the numbers so far were thrown away
abbrev pub invariant-loop-self : goal.invariant-loop-self
invariant-loop-self l = record {
  flip : IsFlip l.self-inside.numbers l.self-inside.left;
  thrown : (start : ℤ) (k : ℕ) → IsAtDraw start k l.fn.self.numbers l.fn.self.left → HasThrownAway start l.m k l.self-inside.numbers l.self-inside.left;
}

abbrev pub decreases-loop-self : goal.decreases-loop-self
decreases-loop-self l = waiting l.bound l.self-inside.numbers l.self-inside.left

use Rattle.sgb_graph.proofs.FirstCycle.{IsFilling}
use Rattle.sgb_graph.proofs.flips.first_cycle.Given as goal

-- the numbers of Y so far stand at their places, and the next two of them are known
abbrev pub invariant-loop-k : goal.invariant-loop-k
invariant-loop-k l = IsFilling l.seed l.numbers l.number l.next l.rotated l.k

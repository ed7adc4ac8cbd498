use Rattle.sgb_graph.proofs.Cycles.{IsCycling}
use Rattle.sgb_graph.proofs.flips.step_cycle.Given as goal

-- the numbers so far are those of the next cycle
abbrev pub invariant-loop-i : goal.invariant-loop-i
invariant-loop-i l = IsCycling l.fn.numbers l.numbers l.i

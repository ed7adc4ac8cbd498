use Rattle.std.proofs.Common.{◌*◌}
use Rattle.sgb_graph.specs.Draws.{seed_of}
use Rattle.sgb_graph.proofs.Standing.{IsCycleFrom}
use Rattle.sgb_graph.proofs.flips.Flip.new.Given as goal

-- so many cycles have been thrown away
abbrev pub invariant-loop-thrown : goal.invariant-loop-thrown
invariant-loop-thrown l = IsCycleFrom (seed_of l.start) (55 * l._thrown) l.numbers

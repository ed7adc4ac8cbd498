use Rattle.sgb_moves.proofs.BoundsSoFar.{AreBoundsSoFar}
use Rattle.sgb_moves.proofs.moves.entry_bounds.Given as goal

abbrev pub invariant-loop-k : goal.invariant-loop-k
invariant-loop-k l = AreBoundsSoFar l.piece l.sizes l.wrap l.k l.bounds.items

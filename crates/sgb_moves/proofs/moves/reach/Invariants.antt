use Rattle.sgb_moves.proofs.PartReaches.{IsReachSoFar}
use Rattle.sgb_moves.proofs.moves.reach.Given as goal

abbrev pub invariant-loop-k : goal.invariant-loop-k
invariant-loop-k l = IsReachSoFar l.sizes l.wrap l.x l.most l.k-index l.reach l.parts

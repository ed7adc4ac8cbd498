use Rattle.sgb_vec.specs.Lexicographic.{IsBelow}
use Rattle.sgb_vec.proofs.BoxRanks.{IsRankSoFar}
use Rattle.sgb_vec.proofs.boxes.place_among.Given as goal

abbrev pub invariant-loop-k : goal.invariant-loop-k
invariant-loop-k l = IsBelow l.vector l.sizes → IsRankSoFar l.sizes l.vector l.k l.place

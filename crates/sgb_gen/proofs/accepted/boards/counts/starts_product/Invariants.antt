use Rattle.std.proofs.Common.{◌≤◌}
use Rattle.sgb_gen.proofs.BoardCountsBoards.{IsProductSoFar, most_of_64}
use Rattle.sgb_gen.proofs.accepted.boards.counts.starts_product.Given as goal

abbrev pub invariant-loop-k : goal.invariant-loop-k
invariant-loop-k l = IsProductSoFar l.sizes l.wrap l.t l.l l.k l.product × (l.product ≤ most_of_64)

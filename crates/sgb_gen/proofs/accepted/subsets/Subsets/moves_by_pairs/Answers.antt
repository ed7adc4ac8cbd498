use Rattle.std.proofs.Common.{rules}
use Rattle.sgb_gen.proofs.SubsetsMovePairs.{moves-by_pairs}
use Rattle.sgb_gen.proofs.accepted.subsets.Subsets.moves_by_pairs.Goals as goal

pub returns : goal.returns
returns c = search (rules, moves-by_pairs)

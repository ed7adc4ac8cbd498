use Rattle.std.proofs.Common.{rules}
use Rattle.sgb_gen.proofs.SimplexCounts.{unit_to_move}
use Rattle.sgb_gen.proofs.listed.RefSimplexListed.arcs_count.Goals as goal

pub returns-clause-simplex : goal.returns-clause-simplex
returns-clause-simplex c = search (rules, unit_to_move)

use Rattle.std.proofs.Common.{rules}
use Rattle.sgb_gen.proofs.SimplexCounts.{arcs-of-directed, arcs-of-undirected}
use Rattle.sgb_gen.proofs.accepted.simplexes.Simplex.arcs_count.Goals as goal

pub returns-then-self-clause-count : goal.returns-then-self-clause-count
returns-then-self-clause-count c = search (rules, arcs-of-directed)

pub returns-clause-count : goal.returns-clause-count
returns-clause-count c = search (rules, arcs-of-undirected)

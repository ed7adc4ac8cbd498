use Rattle.std.proofs.Common.{rules}
use Rattle.sgb_gen.proofs.SubsetsCounts.{arcs-of-directed, arcs-of-undirected}
use Rattle.sgb_gen.proofs.accepted.subsets.Subsets.arcs_of.Goals as goal

pub returns-then-self : goal.returns-then-self
returns-then-self c = search (rules, arcs-of-directed)

pub returns : goal.returns
returns c = search (rules, arcs-of-undirected)

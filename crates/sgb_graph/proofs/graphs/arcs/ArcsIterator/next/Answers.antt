use Rattle.std.proofs.Common.{rules}
use Rattle.sgb_graph.proofs.Chains.{links_of_none}
use Rattle.sgb_graph.proofs.graphs.arcs.ArcsIterator.next.Goals as goal

pub returns-in_err-number-clause-steps : goal.returns-in_err-number-clause-steps
returns-in_err-number-clause-steps c = search (rules, links_of_none)

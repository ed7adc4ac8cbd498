use Rattle.sgb_gen.proofs.ListedGraphs.{of_subsets}
use Rattle.sgb_gen.proofs.listed.RefSubsetsListed.family.Goals as goal

pub returns-clause-ends : goal.returns-clause-ends
returns-clause-ends c = (of_subsets c.args.self.now.now).ends

use Rattle.sgb_gen.proofs.ListedGraphs.{of_simplex}
use Rattle.sgb_gen.proofs.listed.RefSimplexListed.family.Goals as goal

pub returns-clause-ends : goal.returns-clause-ends
returns-clause-ends c = (of_simplex c.args.self.now.now).ends

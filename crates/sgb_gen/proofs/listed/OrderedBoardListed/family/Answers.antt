use Rattle.sgb_gen.proofs.ListedGraphs.{of_board}
use Rattle.sgb_gen.proofs.listed.OrderedBoardListed.family.Goals as goal

pub returns-clause-ends : goal.returns-clause-ends
returns-clause-ends c = (of_board c.args.self.now).ends

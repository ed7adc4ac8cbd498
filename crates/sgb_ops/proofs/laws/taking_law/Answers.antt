use Rattle.sgb_taken.proofs.Taking.{taken_of_edges}
use Rattle.sgb_ops.proofs.laws.taking_law.Goals as goal

pub returns : goal.returns
returns c = taken_of_edges

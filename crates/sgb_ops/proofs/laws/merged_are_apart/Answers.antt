use Rattle.sgb_ops.proofs.Merging.{merged_apart}
use Rattle.sgb_ops.proofs.laws.merged_are_apart.Goals as goal

pub returns : goal.returns
returns c = merged_apart

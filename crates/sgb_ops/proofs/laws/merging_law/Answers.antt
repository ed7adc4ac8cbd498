use Rattle.sgb_ops.proofs.Merging.{merged_first, merged_has_each, merged_shortest}
use Rattle.sgb_ops.proofs.laws.merging_law.Goals as goal

pub returns : goal.returns
returns c = record { each = merged_has_each; first = merged_first; least = merged_shortest }

use Rattle.sgb_ops.proofs.CopiesInOrder.{copies_are_all, copies_are_apart}
use Rattle.sgb_ops.proofs.laws.copies_law.Goals as goal

pub returns : goal.returns
returns c = record { all = copies_are_all; apart = copies_are_apart }

use Rattle.sgb.proofs.KeptNames.{kept-none}
use Rattle.sgb.proofs.writing.kept_names.KeptName.new.Goals as goal

pub invariant_of-result : goal.invariant_of-result
invariant_of-result c = rw (c.new.ensures, c.new-2.ensures, c.new-3.ensures) kept-none

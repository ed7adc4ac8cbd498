use Rattle.std.proofs.Common.{slice_get, arith}
use Rattle.sgb_vec.proofs.RangeSteps.{back_last}
use Rattle.sgb_vec.proofs.vectors.Vectors.back.Goals as goal

pub returns-clause-last : goal.returns-clause-last
returns-clause-last g c = grind (arith, slice_get, back_last)

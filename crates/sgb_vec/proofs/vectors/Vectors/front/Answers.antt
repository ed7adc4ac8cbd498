use Rattle.std.proofs.Common.{slice_get, arith}
use Rattle.sgb_vec.proofs.RangeSteps.{front_first}
use Rattle.sgb_vec.proofs.vectors.Vectors.front.Goals as goal

pub returns-clause-first : goal.returns-clause-first
returns-clause-first g c = grind (arith, slice_get, front_first)

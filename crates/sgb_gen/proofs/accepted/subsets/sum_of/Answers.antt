use Rattle.std.proofs.Common.{arith, w64}
use Rattle.std.proofs.lemmas.Simd.{fold-sum, sum_fits}
use Rattle.sgb_gen.proofs.accepted.subsets.sum_of.Goals as goal

pub overflow_add-result : goal.overflow_add-result
overflow_add-result c = sum_fits w64 0 c.args.entries (omega (arith, c.requires))

pub returns : goal.returns
returns c = omega (arith, fold-sum 0 c.args.entries)

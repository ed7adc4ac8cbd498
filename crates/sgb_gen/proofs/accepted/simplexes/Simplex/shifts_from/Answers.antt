use Rattle.std.proofs.Common.{rules}
use Rattle.sgb_gen.proofs.SimplexEvents.{pairs_left-next}
use Rattle.sgb_gen.proofs.accepted.simplexes.Simplex.shifts_from.Goals as goal

pub loop-higher-preserved : goal.loop-higher-preserved
loop-higher-preserved c = search (rules, pairs_left-next)

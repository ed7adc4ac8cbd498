use Rattle.std.proofs.Common.{arith}
use Rattle.sgb_gen.proofs.TimesAround.{times-exact}
use Rattle.sgb_gen.proofs.accepted.boards.counts.+times_around.Goals as goal

pub returns-clause-times : goal.returns-clause-times
returns-clause-times t c = grind (arith, times-exact)

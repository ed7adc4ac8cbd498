use Rattle.std.proofs.Common.{arith}
use Rattle.std.proofs.lemmas.Int.{to_z-of_z}
use Rattle.sgb_gen.proofs.TimesAround.{around-home}
use Rattle.sgb_gen.proofs.accepted.boards.counts.turns.Goals as goal

pub returns-clause-home : goal.returns-clause-home
returns-clause-home c = grind (arith, to_z-of_z, around-home)

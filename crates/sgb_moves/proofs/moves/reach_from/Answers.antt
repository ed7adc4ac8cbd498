use Rattle.std.proofs.Common.{rules, arith}
use Rattle.std.proofs.lemmas.Int.{to_z-of_z}
use Rattle.sgb_moves.proofs.NearPlaces.{stay_near}
use Rattle.sgb_moves.proofs.moves.reach_from.Goals as goal

pub returns-then-most-eq1-clause-stay : goal.returns-then-most-eq1-clause-stay
returns-then-most-eq1-clause-stay c l few = search (rules, stay_near)

pub returns-clause-stay : goal.returns-clause-stay
returns-clause-stay c l within = grind (arith, to_z-of_z)

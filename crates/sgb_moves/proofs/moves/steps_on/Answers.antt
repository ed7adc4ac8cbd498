use Rattle.std.proofs.Common.{rules}
use lib.Signed.{lt_z}
use Rattle.std.proofs.lemmas.Int.{to_z-of_z}
use Rattle.sgb_moves.proofs.PartReaches.{ahead_leaves, ahead_stays, back_leaves, back_stays, some_amount}
use Rattle.sgb_moves.proofs.moves.steps_on.Goals as goal

pub returns-then-t-gt0-clause-stay : goal.returns-then-t-gt0-clause-stay
returns-then-t-gt0-clause-stay c l within = search (rules, to_z-of_z, ahead_stays, lt_z)

pub returns-clause-stay : goal.returns-clause-stay
returns-clause-stay c l within = search (rules, to_z-of_z, back_stays, lt_z, some_amount)

pub returns-then-t-gt0-clause-end : goal.returns-then-t-gt0-clause-end
returns-then-t-gt0-clause-end c less = search (rules, to_z-of_z, ahead_leaves, lt_z)

pub returns-clause-end : goal.returns-clause-end
returns-clause-end c less = search (rules, to_z-of_z, back_leaves, lt_z, some_amount)

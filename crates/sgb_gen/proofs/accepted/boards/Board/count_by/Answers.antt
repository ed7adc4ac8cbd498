use Rattle.std.proofs.Common.{rules}
use Rattle.std.proofs.lemmas.Int.{to_z-of_z}
use Rattle.sgb_vec.proofs.BoxPlaces.{length-box}
use Rattle.sgb_gen.proofs.BoardCountsSides.{never-home}
use Rattle.sgb_gen.proofs.accepted.boards.Board.count_by.Goals as goal

pub count_around-requires-clause-some : goal.count_around-requires-clause-some
count_around-requires-clause-some c = search (rules, length-box)

pub count_along-requires-clause-some : goal.count_along-requires-clause-some
count_along-requires-clause-some c = search (rules, length-box)

pub count_one_by_one-requires-clause-away : goal.count_one_by_one-requires-clause-away
count_one_by_one-requires-clause-away c = search (rules, to_z-of_z, never-home)

use Rattle.std.proofs.Common.{to_z, of_z, w64, rules}
use Rattle.sgb_gen.proofs.AcceptedBoards.{box_accepted, parameters_accepted}
use Rattle.sgb_gen.proofs.accepted.boards.Board.from_params.Goals as goal

pub invariant_of-result : goal.invariant_of-result
invariant_of-result c =
    let box = box_accepted c.sizes.result.now c.in_ok-family.family c.in_ok-family.ensures in
    search (rules, to_z, w64, of_z, parameters_accepted, box)

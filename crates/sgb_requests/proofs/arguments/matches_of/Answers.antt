use Rattle.sgb_requests.proofs.EnteredCommands.{parsed}
use Rattle.sgb_requests.proofs.arguments.matches_of.Goals as goal

pub returns : goal.returns
returns c =
    let parse = c.try_get_matches_from in
    parsed _ _ _ c.in_ok-command_line.ensures parse.ensures.matches parse.ensures.kinds

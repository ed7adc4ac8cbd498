use Rattle.std.proofs.Common.{rules}
use Rattle.sgb_gen.proofs.AroundStarts.{map-reverse}
use Rattle.sgb_gen.proofs.accepted.boards.Board.span_down.Goals as goal

pub returns-clause-arcs : goal.returns-clause-arcs
returns-clause-arcs c = search (rules, map-reverse)

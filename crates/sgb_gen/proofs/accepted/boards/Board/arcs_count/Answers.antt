use Rattle.std.proofs.Common.{rules}
use Rattle.sgb_gen.proofs.BoardCountsBoards.{arcs-of-directed, arcs-of-undirected, great-moves, great}
use Rattle.sgb_gen.proofs.accepted.boards.Board.arcs_count.Goals as goal

pub returns-then-self-clause-count : goal.returns-then-self-clause-count
returns-then-self-clause-count c = search (rules, arcs-of-directed)

pub returns-in_default-clause-great : goal.returns-in_default-clause-great
returns-in_default-clause-great c = great-moves c.args.self.now c.in_default.ensures.none

pub returns-in_default-checked_mul-clause-great : goal.returns-in_default-checked_mul-clause-great
returns-in_default-checked_mul-clause-great c = search (rules, arcs-of-undirected, great)

pub returns-clause-count : goal.returns-clause-count
returns-clause-count c = search (rules, arcs-of-undirected)

use Rattle.std.proofs.Common.{rules}
use Rattle.sgb_gen.proofs.BoardCountsBoards.{counts-away, beyond-all, beyond-first, beyond-none, beyond-end, great}
use Rattle.sgb_gen.proofs.accepted.boards.Board.count_one_by_one.Goals as goal

pub loop-shorter-init : goal.loop-shorter-init
loop-shorter-init c = search (rules, beyond-all)

pub loop-shorter-preserved : goal.loop-shorter-preserved
loop-shorter-preserved c = search (rules, counts-away, beyond-first)

pub returns-then-starts-eq0-clause-some : goal.returns-then-starts-eq0-clause-some
returns-then-starts-eq0-clause-some c = search (rules, beyond-none, counts-away)

pub returns-in_default-clause-none : goal.returns-in_default-clause-none
returns-in_default-clause-none c = search (rules, counts-away, beyond-first, great)

pub returns-clause-some : goal.returns-clause-some
returns-clause-some c = search (rules, beyond-end)

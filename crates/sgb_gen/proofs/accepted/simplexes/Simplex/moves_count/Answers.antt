use Rattle.std.proofs.Common.{rules}
use Rattle.std.proofs.lemmas.Bool.{eqb-true}
use Rattle.sgb_gen.proofs.SimplexCounts.{shifts_by-append, moves-counted, moves-of_none}
use Rattle.sgb_gen.proofs.SimplexEvents.{pairs_after, pairs_after-next, pairs_after-none}
use Rattle.sgb_gen.proofs.accepted.simplexes.Simplex.moves_count.Goals as goal

pub loop-lower-preserved : goal.loop-lower-preserved
loop-lower-preserved c = search (rules, pairs_after-next, shifts_by-append, pairs_after)

pub returns-clause-ok : goal.returns-clause-ok
returns-clause-ok c = search (rules, pairs_after-none, moves-counted)

pub returns-then-size-eq0-clause-ok : goal.returns-then-size-eq0-clause-ok
returns-then-size-eq0-clause-ok c = search (rules, eqb-true, moves-of_none)

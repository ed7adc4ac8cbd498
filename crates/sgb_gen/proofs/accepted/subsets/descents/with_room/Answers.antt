use Rattle.std.proofs.Common.{rules}
use Rattle.std.proofs.lemmas.Bool.{cases_lt}
use Rattle.sgb_gen.proofs.Descents.{rows-start}
use Rattle.sgb_gen.proofs.accepted.subsets.descents.with_room.Goals as goal

pub returns-clause-same : goal.returns-clause-same
returns-clause-same c bounds is = search (rules, cases_lt, rows-start)

use Rattle.std.proofs.Common.{rules}
use Rattle.sgb_taken.specs.inner.TakenArcs.{taken_after}
use Rattle.sgb_taken.proofs.Taking.{none_taken}
use Rattle.sgb_taken.proofs.taken_arcs.TakenArcsIterator.next.Goals as goal

pub returns-clause-steps : goal.returns-clause-steps
returns-clause-steps c = search (rules, none_taken, taken_after)

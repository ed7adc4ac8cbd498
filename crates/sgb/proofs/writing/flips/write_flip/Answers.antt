use Rattle.std.proofs.Common.{rules}
use Rattle.sgb.proofs.CertainAnswers.{exit_panic, write_certain}
use Rattle.sgb_values.proofs.FirstRefusals.{other_code}
use Rattle.sgb.proofs.Refusals.{draws_judged}
use Rattle.sgb.proofs.writing.flips.write_flip.Goals as goal

pub returns-in_err-draws-clause-certain : goal.returns-in_err-draws-clause-certain
returns-in_err-draws-clause-certain g c = search (rules, exit_panic, other_code, draws_judged)

pub returns-clause-certain : goal.returns-clause-certain
returns-clause-certain g c = write_certain _ c.write_draws.ensures.fault

use Rattle.std.proofs.Common.{refl}
use Rattle.sgb.proofs.CertainAnswers.{exit_panic, exit_untouched, names_refused, never}
use Rattle.sgb.proofs.LocalListings.{named_local}
use Rattle.sgb.proofs.runs.answer_generator_names.Goals as goal

pub returns-clause-ended : goal.returns-clause-ended
returns-clause-ended g c = named_local _ _ _ _ _ _ c.in_ok-local.ensures.value refl c.visit.ensures.0

pub returns-in_err-local-clause-certain : goal.returns-in_err-local-clause-certain
returns-in_err-local-clause-certain g c = λ needs.
    exit_panic _ _ c.from_residual.ensures.1 (names_refused c.args.generator.now _ c.in_err-local.ensures.refused c.in_err-local.ensures.certain needs)

pub returns-in_err-local-clause-untouched : goal.returns-in_err-local-clause-untouched
returns-in_err-local-clause-untouched g c = exit_untouched _ _

pub returns-clause-untouched : goal.returns-clause-untouched
returns-clause-untouched g c = never _ _ c.visit.ensures.1

use Rattle.sgb.proofs.CertainAnswers.{exit_panic, exit_untouched, listing_begun, listing_refused}
use Rattle.sgb.proofs.runs.answer_generator_list.Goals as goal

pub returns-in_err-local-clause-certain : goal.returns-in_err-local-clause-certain
returns-in_err-local-clause-certain g c = λ needs.
    exit_panic _ _ c.from_residual.ensures.1 (listing_refused c.args.generator.now _ _ c.in_err-local.ensures.refused c.in_err-local.ensures.certain needs)

pub returns-clause-certain : goal.returns-clause-certain
returns-clause-certain g c = λ needs.
    let listed = c.write_local_list.ensures in
    listing_begun c.args.generator.now c.args.resume.now c.in_ok-local.local _ c.in_ok-local.ensures.value c.in_ok-local.ensures.sort c.in_ok-local.ensures.refused listed.past listed.subsets
    listed.simplex c.in_ok-local.ensures.simplex needs

pub returns-in_err-local-clause-untouched : goal.returns-in_err-local-clause-untouched
returns-in_err-local-clause-untouched g c = exit_untouched _ _

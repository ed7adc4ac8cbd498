use Rattle.sgb.proofs.CertainAnswers.{certain_run}
use Rattle.sgb.proofs.Refusals.{answer_own}
use Rattle.sgb.proofs.StdinValues.{kept_answer}
use Rattle.sgb_values.proofs.StdinValues.{stdin_given}
use Rattle.sgb.specs.Outcomes.{answer_of}
use Rattle.std.proofs.Common.{[], refl}
use Rattle.sgb.proofs.runs.run.Goals as goal

pub returns-clause-answers : goal.returns-clause-answers
returns-clause-answers g c =
    let (kept, is, each) = c.run_answer.ensures.answers in
    let (held, told, answer, on_held, on_kept) = kept_answer _ kept c.args.request.now is in
    (held, told, answer, on_held, each answer on_kept)

pub returns-clause-certain : goal.returns-clause-certain
returns-clause-certain g c =
    certain_run c.args.request.now _ (λ unread needs sound.
    let (stdin, gives) = stdin_given in
    (stdin [], c.run_answer.ensures.certain unread needs sound (answer_of c.args.request.now (stdin [])) (stdin [], gives [], refl)))

pub returns-clause-apart : goal.returns-clause-apart
returns-clause-apart g c = answer_own c.args.request.now

pub returns-clause-untouched : goal.returns-clause-untouched
returns-clause-untouched g c = c.run_answer.ensures.untouched tt

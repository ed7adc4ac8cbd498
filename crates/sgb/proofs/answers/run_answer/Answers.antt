use Rattle.std.proofs.Common.{◌∙◌, refl, sym}
use Rattle.sgb.proofs.CertainAnswers.{certain_err, certain_ok}
use Rattle.sgb.proofs.Endings.{fault_status, answers_from_ok, answers_from_err}
use Rattle.sgb.proofs.answers.run_answer.Goals as goal

pub returns-in-Ok-clause-answers : goal.returns-in-Ok-clause-answers
returns-in-Ok-clause-answers g c =
    let (used, is, ended) = c.in-Ok.ensures.ended in
    (used, is, λ a answer. answers_from_ok _ a _ _ _ refl (ended a answer))

pub returns-in-Ok-clause-certain : goal.returns-in-Ok-clause-certain
returns-in-Ok-clause-certain g c = λ unread needs sound a answer.
    let (used, is, ended) = c.in-Ok.ensures.ended in
    certain_ok (g.A.Answer.reads c.args.answer.now) _ a _ _ _ refl (ended a (rw (is.1 unread) answer)) unread

pub returns-in-Err-clause-answers : goal.returns-in-Err-clause-answers
returns-in-Err-clause-answers g c =
    let (used, is, ended) = c.in-Err.ensures.ended in
    rw c.report.ensures.status (used, is, λ a answer. answers_from_err _ _ a _ _ _ c.report.ensures.line (ended a answer))

pub returns-in-Err-clause-certain : goal.returns-in-Err-clause-certain
returns-in-Err-clause-certain g c = λ unread needs sound a answer.
    let (used, is, ended) = c.in-Err.ensures.ended in
    rw c.report.ensures.status
    (certain_err _ (g.A.Answer.reads c.args.answer.now) _ a _ _ _ c.report.ensures.line (ended a (rw (is.1 unread) answer)) (c.in-Err.ensures.certain unread needs) unread sound)

pub returns-in-Err-clause-flushed : goal.returns-in-Err-clause-flushed
returns-in-Err-clause-flushed g c = λ none. absurd (fault_status c.in-Err.fault (sym c.report.ensures.status ∙ none))

pub returns-in-Ok-clause-untouched : goal.returns-in-Ok-clause-untouched
returns-in-Ok-clause-untouched g c = λ prepared one. absurd cc

pub returns-in-Err-clause-untouched : goal.returns-in-Err-clause-untouched
returns-in-Err-clause-untouched g c = λ prepared one. c.in-Err.ensures.untouched prepared (sym c.report.ensures.status ∙ one)

use Rattle.std.proofs.Common.{refl}
use Rattle.std.proofs.lemmas.Result.{err_from_is_err_and}
use Rattle.sgb.proofs.CertainAnswers.{exit_certain, write_certain}
use Rattle.sgb.proofs.Endings.{all_err, flush_ended, one_untouched, read_refused, read_sound, some_used, write_status}
use Rattle.sgb.proofs.answers.give.Goals as goal

pub returns-in_err-input-clause-ended : goal.returns-in_err-input-clause-ended
returns-in_err-input-clause-ended g c =
    let p = err_from_is_err_and c.from_residual.result c.from_residual.ensures.1 in
    let (used, is) = some_used (g.A.Answer.reads c.args.answer.now) (g.R.Source.remaining c.args.source.now) in
    rw (p.1, p.2) (used, is, λ a answer. read_refused _ _ a _ _ _ _ c.in_err-input.ensures.ended c.requires)

pub returns-in_err-write-clause-ended : goal.returns-in_err-write-clause-ended
returns-in_err-write-clause-ended g c =
    let p = err_from_is_err_and c.from_residual-in_err-write.result c.from_residual-in_err-write.ensures.1 in
    rw (p.1, p.2) (
      c.in_ok-input.input.items,
      c.in_ok-input.ensures.used,
      λ a answer. read_sound _ a _ _ c.in_ok-input.ensures.ended (c.in_err-write.ensures.ended a answer),
    )

pub returns-clause-ended : goal.returns-clause-ended
returns-clause-ended g c =
    let passed = c.pass_on.ensures in (
      c.in_ok-input.input.items,
      c.in_ok-input.ensures.used,
      λ a answer. read_sound _ a _ _ c.in_ok-input.ensures.ended
          (flush_ended a _ _ _ _ _ _ _ _ _ _ (c.in_ok-write.ensures.ended a answer) passed.kept passed.failed passed.fault),
    )

pub returns-in_err-write-clause-certain : goal.returns-in_err-write-clause-certain
returns-in_err-write-clause-certain g c = λ unread needs. exit_certain _ _ c.from_residual-in_err-write.ensures.1 (c.in_err-write.ensures.memory needs)

pub returns-clause-certain : goal.returns-clause-certain
returns-clause-certain g c = λ unread needs. write_certain _ c.pass_on.ensures.fault

pub returns-in_err-input-clause-untouched : goal.returns-in_err-input-clause-untouched
returns-in_err-input-clause-untouched g c = λ prepared. all_err _ c.from_residual.result (λ f one. refl)

pub returns-in_err-write-clause-untouched : goal.returns-in_err-write-clause-untouched
returns-in_err-write-clause-untouched g c = λ prepared.
    let p = err_from_is_err_and c.from_residual-in_err-write.result c.from_residual-in_err-write.ensures.1 in
    let (a, is) = c.in_ok-input.ensures.answered c.in_ok-input.input.items in
    rw (p.1, p.2) (one_untouched _ a _ _ (c.in_err-write.ensures.ended a is) (c.in_err-write.ensures.untouched prepared))

pub returns-clause-untouched : goal.returns-clause-untouched
returns-clause-untouched g c = λ prepared. write_status _ _ c.pass_on.ensures.fault

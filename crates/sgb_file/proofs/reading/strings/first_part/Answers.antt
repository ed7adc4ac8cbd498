use Rattle.sgb_vec.proofs.Common.{rules, [], ◌∙◌, err_from_is_err_and, IfErr-weaker, IfOk-weaker}
use Rattle.sgb_file.specs.inner.LinesLeft.{text_left}
use Rattle.sgb_file.proofs.FoundSteps.{passing_stopped}
use Rattle.sgb_file.proofs.StringReading.{opened, not_opened}
use Rattle.sgb_file.proofs.reading.strings.first_part.Goals as goal

pub returns-in_err-pass_byte-clause-none : goal.returns-in_err-pass_byte-clause-none
returns-in_err-pass_byte-clause-none c = search (rules, err_from_is_err_and, not_opened, passing_stopped, text_left)

pub returns-clause-part : goal.returns-clause-part
returns-clause-part c =
    IfOk-weaker c.take_part.result _ _
    (λ part h most. opened most (text_left c.args.lines.now) (text_left c.pass_byte.new.lines) c.in_ok-pass_byte.ensures.passed ∙ h most [])
    c.take_part.ensures.part

pub returns-clause-none : goal.returns-clause-none
returns-clause-none c =
    IfErr-weaker c.take_part.result _ _
    (λ error h. (h.0, λ most short. opened most (text_left c.args.lines.now) (text_left c.pass_byte.new.lines) c.in_ok-pass_byte.ensures.passed ∙ h.1 most []))
    c.take_part.ensures.none

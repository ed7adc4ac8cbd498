use Rattle.std.proofs.Common.{◌∙◌, Ok, Err, refl, sym}
use Rattle.sgb_expr.specs.Expression.{expression_of}
use Rattle.sgb.proofs.Endings.{fault_status}
use Rattle.sgb_levels.proofs.LevelRuns.{levels_ran, levels_written}
use Rattle.sgb_levels.proofs.runs.run_levels.Goals as goal

pub returns-in-Ok-clause-read : goal.returns-in-Ok-clause-read
returns-in-Ok-clause-read g c =
    let (kept, is, each) = c.run_answer.ensures.answers in
    levels_ran c.args.words _ _ (Ok c.in-Ok.expression) _ _ c.in-Ok.ensures
    (levels_written (expression_of c.in-Ok.expression) _ kept _ is each)

pub returns-in-Err-clause-read : goal.returns-in-Err-clause-read
returns-in-Err-clause-read g c =
    levels_ran c.args.words _ _ (Err c.in-Err.fault) _ _ c.in-Err.ensures
    (record { out = record { same = refl; told = refl; sound = c.requires }; line = c.report_refusal.ensures.line; exit = c.report_refusal.ensures.status })

pub returns-in-Err-clause-flushed : goal.returns-in-Err-clause-flushed
returns-in-Err-clause-flushed g c = λ none. absurd (fault_status c.in-Err.fault (sym c.report_refusal.ensures.status ∙ none))

pub returns-in-Ok-clause-untouched : goal.returns-in-Ok-clause-untouched
returns-in-Ok-clause-untouched g c = c.run_answer.ensures.untouched tt

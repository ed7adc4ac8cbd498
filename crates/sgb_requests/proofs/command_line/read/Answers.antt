use Rattle.sgb_vec.proofs.Common.{refl, subst, Option, Ok, Err, err_from_is_err_and}
use Rattle.clap.specs.Words.{Text}
use Rattle.sgb_expr.specs.Expressions.{IsExpressionRead}
use Rattle.sgb_requests.specs.Reading.{IsReadAs}
use Rattle.sgb_requests.specs.Requests.{IsResumeOf}
use Rattle.sgb_requests.specs.inner.Requests.{AreRefused}
use Rattle.sgb_requests.specs.declared.faults.Fault.{Fault}
use Rattle.sgb_requests.specs.declared.faults.Fault.TheVariants as fault
use Rattle.sgb_requests.specs.declared.requests.Resume.{Resume}
use Rattle.sgb_requests.proofs.RefusedTexts.{no_refusal, panic_is_no_room}
use Rattle.sgb_requests.proofs.command_line.read.Goals as goal

-- a text that is refused, after options that go together
refused : (text : Text) (after skip : Option Text) (resume : Resume) (f : Fault) → IsResumeOf after skip resume → IsReadAs text (Err f) → AreRefused text after skip f
refused text after skip resume fault.Usage begins h = absurd (no_refusal (IsExpressionRead text) fault.Usage refl h)
refused text after skip resume (fault.Panic p) begins h = panic_is_no_room (IsExpressionRead text) p h
refused text after skip resume f begins h = (resume, begins, h)

pub returns-in_err-graph : goal.returns-in_err-graph
returns-in_err-graph c =
    let p = err_from_is_err_and c.from_residual-in_err-graph.result c.from_residual-in_err-graph.ensures.1 in
    rw (p.1, p.2) (refused c.args.values.expression.now _ _ _ _ c.in_ok-resume.ensures
    (subst (λ (u : Text). IsReadAs u (Err c.in_err-graph.field-0.0)) c.as_bytes.ensures.value c.in_err-graph.ensures.read))

pub returns : goal.returns
returns c =
    (c.in_ok-resume.ensures, subst (λ (u : Text). IsReadAs u (Ok c.in_ok-graph.graph)) c.as_bytes.ensures.value c.in_ok-graph.ensures.read)

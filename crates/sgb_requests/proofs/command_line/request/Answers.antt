use Rattle.std.proofs.Common.{List, Result, Err, map, codes, subst, inl, inr, string_bytes}
use Rattle.std.proofs.lemmas.Result.{err_from_is_err_and}
use Rattle.clap.specs.Words.{Text}
use Rattle.sgb_requests.specs.inner.CommandLine.{AsksBy, EntersSubcommand, bytes_of}
use Rattle.sgb_expr.specs.declared.expressions.Expr.{Expr}
use Rattle.sgb_expr.specs.Expressions.{IsExpressionRead}
use Rattle.sgb_expr.specs.FlipTexts.{IsFlipRead}
use Rattle.sgb_requests.specs.Reading.{IsFlipReadAs, IsReadAs}
use Rattle.sgb_requests.specs.Requests.{IsAskedOf, IsRefusedCommandLine, IsResumeOf}
use Rattle.sgb_requests.specs.inner.Requests.{AreRefused}
use Rattle.sgb_requests.specs.declared.faults.Fault.{Fault}
use Rattle.sgb_requests.specs.declared.faults.Fault.TheVariants as fault
use Rattle.sgb_requests.specs.declared.arguments.Arguments.{Arguments}
use Rattle.sgb_requests.specs.declared.requests.Resume.{Resume}
use Rattle.sgb_requests.proofs.Beginnings.{begins_by, begins_given}
use Rattle.sgb_requests.proofs.RefusedTexts.{IsRefusedWithText, faults_here}
use Rattle.sgb_requests.proofs.command_line.request.Goals as goal

-- values ask of the command what they give
asked : (words : List Text) (command : Text) (values : Arguments) (resume : Resume) (read : Result Expr Fault) → AsksBy words command values → IsResumeOf (bytes_of values.after) (bytes_of values.skip) resume
    → IsReadAs values.expression.now read → IsAskedOf words command resume read
asked words command values resume read asks begins is =
    let gives = asks.2 in
    (asks.0, values.expression.now, (asks.1, gives.0), begins_by asks.0 _ _ resume gives.1 gives.2 begins, is)

-- values that are refused refuse the words that gave them
refused : (words : List Text) (command : Text) (values : Arguments) (f : Fault) → ((resume : Resume) → IsAskedOf words command resume (Err f) → IsRefusedWithText words f) → AsksBy words command values
    → AreRefused values.expression.now (bytes_of values.after) (bytes_of values.skip) f → IsRefusedCommandLine words f
refused words command values fault.Usage takes asks h =
    let gives = asks.2 in
    inr (command, asks.0, values.expression.now, (asks.1, gives.0), λ resume begins. h resume (begins_given asks.0 _ _ resume gives.1 gives.2 begins))
refused words command values (fault.Panic p) takes asks h = h
refused words command values f takes asks h = takes h.0 (asked words command values h.0 (Err f) asks h.1 h.2)

pub returns-in_err-graph-in-Names : goal.returns-in_err-graph-in-Names
returns-in_err-graph-in-Names c =
    let p = err_from_is_err_and c.from_residual-in_err-graph-in-Names.result c.from_residual-in_err-graph-in-Names.ensures.1 in
    let values = c.in-Names.values in
    let asks = subst (EntersSubcommand (map string_bytes c.args.words.now)) c.in-Names.is c.in_ok-values.ensures in
    rw (p.1, p.2) (refused _ (codes "names") values _ (λ resume h. inl (resume, inl h)) asks c.in_err-graph-in-Names.ensures)

pub returns-in_err-graph-in-List : goal.returns-in_err-graph-in-List
returns-in_err-graph-in-List c =
    let p = err_from_is_err_and c.from_residual-in_err-graph-in-List.result c.from_residual-in_err-graph-in-List.ensures.1 in
    let values = c.in-List.values in
    let asks = subst (EntersSubcommand (map string_bytes c.args.words.now)) c.in-List.is c.in_ok-values.ensures in
    rw (p.1, p.2) (refused _ (codes "list") values _ (λ resume h. inl (resume, inr h)) asks c.in_err-graph-in-List.ensures)

pub returns-in_err-graph-in-Save : goal.returns-in_err-graph-in-Save
returns-in_err-graph-in-Save c =
    let p = err_from_is_err_and c.from_residual-in_err-graph-in-Save.result c.from_residual-in_err-graph-in-Save.ensures.1 in
    let asks = subst (EntersSubcommand (map string_bytes c.args.words.now)) c.in-Save.is c.in_ok-values.ensures in
    rw (p.1, p.2) (faults_here _ (IsExpressionRead c.in-Save.text.now) (λ f h. inr (inl (asks.0, c.in-Save.text.now, asks.1, h))) _
    (subst (λ (text : Text). IsReadAs text (Err c.in_err-graph-in-Save.field-0.0)) c.as_bytes.ensures.value c.in_err-graph-in-Save.ensures.read))

pub returns-in_err-params-in-Flip : goal.returns-in_err-params-in-Flip
returns-in_err-params-in-Flip c =
    let p = err_from_is_err_and c.from_residual-in_err-params-in-Flip.result c.from_residual-in_err-params-in-Flip.ensures.1 in
    let asks = subst (EntersSubcommand (map string_bytes c.args.words.now)) c.in-Flip.is c.in_ok-values.ensures in
    rw (p.1, p.2) (faults_here _ (IsFlipRead c.in-Flip.text.now) (λ f h. inr (inr (asks.0, c.in-Flip.text.now, asks.1, h))) _
    (subst (λ (text : Text). IsFlipReadAs text (Err c.in_err-params-in-Flip.field-0.0)) c.as_bytes-in-Flip.ensures.value c.in_err-params-in-Flip.ensures.read))

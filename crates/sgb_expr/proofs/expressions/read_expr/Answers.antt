use Rattle.std.proofs.Common.{sym, ◌∙◌, subst}
use Rattle.sgb_expr.specs.Expression.{expression_of}
use Rattle.sgb_expr.specs.Expressions.{TakesMemory}
use Rattle.sgb_expr.specs.inner.Gives.{Fails}
use Rattle.sgb_expr.specs.inner.Reading.{whole_at}
use Rattle.sgb_expr.specs.declared.wrong.Wrong.{Wrong}
use Rattle.sgb_text.proofs.Readers.{ok_same}
use Rattle.sgb_expr.proofs.WholeReading.{whole_read, whole_again, whole_wrong}
use Rattle.sgb_expr.proofs.expressions.read_expr.Goals as goal

pub overflow_sub-result : goal.overflow_sub-result
overflow_sub-result c =
    let stops = subst (λ (w : Wrong). Fails (TakesMemory c.args.text.now) w (whole_at c.args.text.now)) c.in-Err-Left.field-0-is c.in-Err-Left.ensures in
    (whole_wrong c.args.text.now c.in-Err-Left.left stops).within

pub returns-in-Ok-clause-read : goal.returns-in-Ok-clause-read
returns-in-Ok-clause-read c =
    ((λ h. let t = c.is_too_large.ensures.1 h in cc (t, c.if-is_too_large.false)), whole_read c.args.text.now (expression_of c.in-Ok.expression) c.in-Ok.ensures)

pub returns-in-Ok-clause-only : goal.returns-in-Ok-clause-only
returns-in-Ok-clause-only c = λ e is. ok_same (expression_of c.in-Ok.expression) e (sym c.in-Ok.ensures ∙ whole_again c.args.text.now e is)

pub returns-in-Err-Left-clause-read : goal.returns-in-Err-Left-clause-read
returns-in-Err-Left-clause-read c =
    let stops = subst (λ (w : Wrong). Fails (TakesMemory c.args.text.now) w (whole_at c.args.text.now)) c.in-Err-Left.field-0-is c.in-Err-Left.ensures in
    let wrong = whole_wrong c.args.text.now c.in-Err-Left.left stops in
    ((λ h. let t = c.is_too_large.ensures.1 h in cc (t, c.if-is_too_large.false)), wrong.none, wrong.longest)

use Rattle.std.proofs.Common.{◌∙◌, sym, ap}
use Rattle.sgb_expr.proofs.StdinUses.{some_has_stdin, induced_uses}
use Rattle.sgb_expr.specs.Expression.{expression_of}
use Rattle.sgb_expr.specs.StdinUses.{has_stdin}
use Rattle.sgb_expr.proofs.+stdin_uses.Goals as goal

pub expressions::Expr::has_stdin-returns-else-has_stdin-4 : goal.expressions::Expr::has_stdin-returns-else-has_stdin-4
expressions::Expr::has_stdin-returns-else-has_stdin-4 t c =
    let a = c.in-Induced in
    let none = sym (ap (λ e. has_stdin (expression_of e)) c.deref-in-Induced.ensures) ∙ sym c.has_stdin-in-Induced.ensures ∙ c.if-has_stdin-4.false in
    c.have_stdin.ensures ∙ ap some_has_stdin c.as_slice.ensures
    ∙ sym (induced_uses c.args.self.now a.graph a.entries a.self_loops a.multi a.directed a.is none)

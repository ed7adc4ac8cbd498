-- Which expressions of the code read standard input.
use Rattle.std.proofs.Common.{◌≡◌, ◌||◌, Bool, false, Box, Global, List, ap, ◌∙◌}
use Rattle.sgb_expr.specs.inner.CodeEntries.{list_of}
use Rattle.sgb_expr.specs.Listed.{listed}
use Rattle.sgb_expr.specs.Expression.{entries_of, expression_of}
use Rattle.sgb_expr.specs.StdinUses.{entries_have_stdin, has_stdin}
use Rattle.sgb_expr.specs.declared.entries.Entries.{Entries}
use Rattle.sgb_expr.specs.declared.entries.EntryExpr.{EntryExpr}
use Rattle.sgb_expr.specs.declared.expressions.Expr.{Expr}
use Rattle.sgb_expr.specs.declared.expressions.Expr.TheVariants as expr
use Rattle.sgb_expr.proofs.CodeExpressions.{induced_is}

-- whether one of these entries of the code has it
abbrev pub some_has_stdin : List EntryExpr → Bool
some_has_stdin list = entries_have_stdin (entries_of (listed list))

-- an induced graph whose graph has none: its entries decide
pub induced_uses : (e : Expr) (graph : Box Expr Global) (entries : Entries) (self_loops multi directed : Bool) → e ≡ expr.Induced graph entries self_loops multi directed
    → has_stdin (expression_of graph.value) ≡ false → has_stdin (expression_of e) ≡ entries_have_stdin (entries_of (list_of entries))
induced_uses e graph entries self_loops multi directed is none =
    ap (λ x. has_stdin (expression_of x)) is ∙ ap has_stdin (induced_is graph entries self_loops multi directed)
    ∙ ap (λ b. b || entries_have_stdin (entries_of (list_of entries))) none

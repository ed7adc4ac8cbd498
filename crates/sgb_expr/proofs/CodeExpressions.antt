-- What expressions of the code that hold entries are.
use mathlib.Core.Former.{Count}
use Rattle.std.proofs.Common.{◌≡◌, ℤ, Bool, List, Box, Global, refl, ◌∙◌, ap}
use Rattle.sgb_expr.specs.inner.CodeEntries.{list_of}
use Rattle.sgb_expr.specs.Listed.{listed}
use Rattle.sgb_expr.specs.Expression.{Expression, entries_of, entry_of, expression_of, row_entries, EntryThen}
use Rattle.sgb_expr.specs.Forms.{flag_at}
use Rattle.sgb_expr.specs.inner.Operations.{induced_call}
use Rattle.sgb_expr.specs.declared.entries.Entries.{Entries}
use Rattle.sgb_expr.specs.declared.expressions.Expr.{Expr, Row_of-EntryExpr, end_of-EntryExpr, more_of-EntryExpr, items-the_row-EntryExpr, items_hidden-the_row-EntryExpr-0}
use Rattle.sgb_expr.specs.declared.expressions.Expr.TheVariants as expr

-- the entries of a row
row_listed : (n : _) (row : Row_of-EntryExpr n) → row_entries row ≡ entries_of (listed (items-the_row-EntryExpr n row))
row_listed n end_of-EntryExpr = refl
row_listed n (more_of-EntryExpr e others) = ap (EntryThen (entry_of e)) (row_listed _ others)

-- the row of an induced graph
abbrev row_of : Expr → (n : Count) × Row_of-EntryExpr n
row_of (expr.Induced' p graph shape row self_loops multi directed) = (_, row)
row_of _ = (_, end_of-EntryExpr)

-- an induced graph of the code
pub induced_is : (graph : Box Expr Global) (entries : Entries) (self_loops multi directed : Bool)
    → expression_of (expr.Induced graph entries self_loops multi directed) ≡ Expression.Induced (expression_of graph.value) (entries_of (list_of entries)) self_loops multi directed
induced_is graph entries self_loops multi directed =
    let row = row_of (expr.Induced graph entries self_loops multi directed) in
    ap (λ es. Expression.Induced (expression_of graph.value) es self_loops multi directed)
    (row_listed row.0 row.1 ∙ ap (λ es. entries_of (listed es)) (items_hidden-the_row-EntryExpr-0 entries.list))

-- and with flags that integers are
pub induced_made : (graph : Box Expr Global) (entries : Entries) (numbers : List ℤ) (self_loops multi directed : Bool) → self_loops ≡ flag_at numbers 0 → multi ≡ flag_at numbers 1 → directed ≡ flag_at numbers 2
    → expression_of (expr.Induced graph entries self_loops multi directed) ≡ induced_call (expression_of graph.value) (list_of entries) numbers
induced_made graph entries numbers self_loops multi directed e f g =
    rw (e, f, g) (induced_is graph entries (flag_at numbers 0) (flag_at numbers 1) (flag_at numbers 2))

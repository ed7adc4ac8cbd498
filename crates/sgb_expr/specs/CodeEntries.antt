-- What entries of the code are.
use Rattle.std.specs.Prelude.{List}
use Rattle.sgb_expr.specs.declared.entries.Entries.{Entries}
use Rattle.sgb_expr.specs.declared.entries.EntryExpr.{EntryExpr}

-- the entries, as values of the code, that a value of its type Entries holds, in order
abbrev pub items_of : Entries → List EntryExpr
items_of entries = entries.list.items

-- Lists of entries of the code, as entries.
use Rattle.std.specs.Prelude.{List, map}
use Rattle.sgb_expr.specs.Expression.{Entry, entry_of}
use Rattle.sgb_expr.specs.declared.entries.EntryExpr.{EntryExpr}

-- the entry that each of a list of the code's entries stands for
abbrev pub listed : List EntryExpr → List Entry
listed list = map entry_of list

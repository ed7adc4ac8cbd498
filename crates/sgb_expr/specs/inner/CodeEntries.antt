-- Lists of entries of the code.
use Rattle.std.specs.Prelude.{List}
use Rattle.sgb_expr.specs.Expression.{Entry}
use Rattle.sgb_expr.specs.declared.entries.Entries.{Entries}
use Rattle.sgb_expr.specs.CodeEntries.{items_of}
use Rattle.sgb_expr.specs.Listed.{listed}

-- the entries that they are, in order
abbrev pub list_of : Entries → List Entry
list_of entries = listed (items_of entries)

-- Which expressions read standard input.
use Rattle.std.specs.Prelude.{Bool, true, false, ◌||◌}
use Rattle.sgb_expr.specs.Expression.{Expression, Entry, Entries, Generated, OfNumbers, OfGraph, OfGraphs, Induced, Stdin, Number, Graph, NoEntries, EntryThen}

abbrev mutual
  -- whether `stdin` stands anywhere in an expression
  pub has_stdin : Expression → Bool
  has_stdin (Generated f) = false
  has_stdin (OfNumbers operation) = false
  has_stdin (OfGraph operation graph) = has_stdin graph
  has_stdin (OfGraphs operation first second) = has_stdin first || has_stdin second
  has_stdin (Induced graph entries self_loops multi directed) = has_stdin graph || entries_have_stdin entries
  has_stdin Stdin = true

  -- whether `stdin` stands anywhere in an entry
  pub entry_has_stdin : Entry → Bool
  entry_has_stdin (Number n) = false
  entry_has_stdin (Graph e) = has_stdin e

  -- whether `stdin` stands anywhere in one of some entries
  pub entries_have_stdin : Entries → Bool
  entries_have_stdin NoEntries = false
  entries_have_stdin (EntryThen entry others) = entry_has_stdin entry || entries_have_stdin others

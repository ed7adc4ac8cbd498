use Rattle.std.proofs.Common.{◌≡◌, ◌<◌, ◌+◌, ◌-◌, ◌*◌, [], length}
use Rattle.sgb_expr.specs.Listed.{listed}
use Rattle.sgb_expr.specs.inner.Readings.{separator_before}
use Rattle.sgb_expr.specs.inner.Reading.{entry_list_at, expression_at}
use Rattle.sgb_expr.proofs.EntryLists.{and_entries}
use Rattle.sgb_expr.proofs.operations.+expressions.Given as goal

-- a name is taken off, then the arguments are told apart, then expressions inside are read
abbrev pub decreases-expression : goal.decreases-expression
decreases-expression l = 3 * length l.text.now

abbrev pub decreases-arguments : goal.decreases-arguments
decreases-arguments l = 3 * length l.text.now + 2

abbrev pub decreases-complement : goal.decreases-complement
decreases-complement l = 3 * length l.text.now + 1

abbrev pub decreases-two_graphs : goal.decreases-two_graphs
decreases-two_graphs l = 3 * length l.text.now + 1

abbrev pub decreases-lines : goal.decreases-lines
decreases-lines l = 3 * length l.text.now + 1

abbrev pub decreases-induced : goal.decreases-induced
decreases-induced l = 3 * length l.text.now + 1

abbrev pub decreases-entry_list : goal.decreases-entry_list
decreases-entry_list l = 3 * length l.text.now + 2

abbrev pub decreases-entry : goal.decreases-entry
decreases-entry l = 3 * length l.text.now + 1

abbrev pub invariant-entry_list-entries : goal.invariant-entry_list-entries
invariant-entry_list-entries l = record {
  read : and_entries (listed l.list.items) (separator_before (length l.list.items) []) l.rest ≡ entry_list_at expression_at l.text;
  shorter : length l.rest < length l.text;
}

-- after the first entry a separator is taken off each time
abbrev pub decreases-entry_list-entries : goal.decreases-entry_list-entries
decreases-entry_list-entries l = length l.rest + (1 - length l.list.items)

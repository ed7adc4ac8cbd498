use Rattle.std.proofs.Common.{◌≡◌, ◌≤◌, ◌+◌, ℕ, List, Result, length}
use Rattle.sgb_vec.specs.declared.panics.Panic.{Panic}
use Rattle.sgb_graph.specs.Graphs.{GraphData}
use Rattle.sgb_expr.specs.Listed.{listed}
use Rattle.sgb_expr.specs.Expression.{entries_of, entry_of, expression_of}
use Rattle.sgb_expr.specs.StdinUses.{entries_have_stdin}
use Rattle.sgb_values.specs.Values.{values_of}
use Rattle.sgb_values.specs.inner.Inputs.{left_after}
use Rattle.sgb_values.specs.inner.StdinValues.{GivesStdin}
use Rattle.sgb_values.proofs.Values.{and_values, size_of, size_of_entries, size_of_entry}
use Rattle.sgb_values.proofs.evaluation.+graphs.Given as goal

-- an expression is larger than its operands together
abbrev pub decreases-evaluate : goal.decreases-evaluate
decreases-evaluate l = size_of (expression_of l.expression.now)

abbrev pub decreases-by_lists : goal.decreases-by_lists
decreases-by_lists l = size_of (expression_of l.first.now) + size_of (expression_of l.second.now) + 2

abbrev pub decreases-by_entries : goal.decreases-by_entries
decreases-by_entries l = size_of (expression_of l.graph.now) + size_of_entries (entries_of (listed l.entries.now)) + 2

abbrev pub decreases-operand : goal.decreases-operand
decreases-operand l = size_of (expression_of l.expression.now) + 1

abbrev pub decreases-values_of : goal.decreases-values_of
decreases-values_of l = size_of_entries (entries_of (listed l.entries.now)) + 1

abbrev pub decreases-value_of_entry : goal.decreases-value_of_entry
decreases-value_of_entry l = size_of_entry (entry_of l.entry.now)

-- with the values of the entries that are left, they are all; the input is left as by all where it is left so by these
abbrev pub invariant-values_of-loop-entry : goal.invariant-values_of-loop-entry
invariant-values_of-loop-entry l =
    ((stdin : List ℕ → Result GraphData Panic) → GivesStdin stdin
    → and_values l.values.items (values_of (stdin l.input) (entries_of (listed l.later))) ≡ values_of (stdin l.initial.input) (entries_of (listed l.entries)))
    × (left_after l.more (entries_have_stdin (entries_of (listed l.later))) l.input ≡ left_after l.more (entries_have_stdin (entries_of (listed l.entries))) l.initial.input)
    × (size_of_entries (entries_of (listed l.later)) ≤ size_of_entries (entries_of (listed l.entries)))

abbrev pub decreases-values_of-loop-entry : goal.decreases-values_of-loop-entry
decreases-values_of-loop-entry l = length l.later

-- Expressions are refused for what they are: never out of memory.
use Rattle.std.proofs.Common.{arith, rules, ◌≢◌, Bool, cond, Result, Err}
use Rattle.sgb_vec.specs.Results.{and_then}
use Rattle.sgb_vec.specs.declared.panics.Panic.{Panic}
use Rattle.sgb_vec.specs.declared.panics.Panic.TheVariants.{NoRoom}
use Rattle.sgb_graph.specs.Graphs.{GraphData}
use Rattle.sgb_expr.specs.Expression.{Expression, Generated, OfNumbers, OfGraph, OfGraphs, Induced, Stdin, OnNumbers, BiComplete, OnGraph, Complement, OnGraphs, Gunion, Entries, NoEntries, EntryThen, Number, Graph}
use Rattle.sgb_gen.specs.Generators.{made}
use Rattle.sgb_values.specs.Values.{of_graph, of_graphs, of_numbers, value_of, values_of}

-- accepted, or refused for what it is
abbrev pub IsJudged : {T : Type 0} → Result T Panic → Type 0
IsJudged r = r ≢ Err NoRoom

-- one or the other
pub either : {T : Type 0} (b : Bool) (r s : Result T Panic) → IsJudged r → IsJudged s → IsJudged (cond b r s)
either b r s p q = grind (arith)

-- one after the other
pub after : {T U : Type 0} (r : Result T Panic) (f : T → Result U Panic) → IsJudged r → ((x : T) → IsJudged (f x)) → IsJudged (and_then r f)
after r f p q = grind (arith)

-- operations: the last clause of each is tried for all that are left
numbers_judged : (operation : OnNumbers) → IsJudged (made (of_numbers operation))
numbers_judged (BiComplete n1 n2 directed) = search (rules, after, either)
numbers_judged operation = search (rules, after, either)

graph_judged : (operation : OnGraph) (g : GraphData) → IsJudged (made (of_graph operation g))
graph_judged (Complement copy self_loops directed) g = search (rules, after, either)
graph_judged operation g = search (rules, after, either)

graphs_judged : (operation : OnGraphs) (g h : GraphData) → IsJudged (made (of_graphs operation g h))
graphs_judged (Gunion multi directed) g h = search (rules, after, either)
graphs_judged operation g h = search (rules, after, either)

mutual
  -- an expression
  pub value_judged : (stdin : Result GraphData Panic) → IsJudged stdin → (e : Expression) → IsJudged (value_of stdin e)
  value_judged stdin is (Generated f) = search (rules, after, either)
  value_judged stdin is (OfNumbers operation) = numbers_judged operation
  value_judged stdin is (OfGraph operation e) = after _ _ (value_judged stdin is e) (graph_judged operation)
  value_judged stdin is (OfGraphs operation e f) = search (rules, after, graphs_judged operation, value_judged stdin is e, value_judged stdin is f)
  value_judged stdin is (Induced e entries self_loops multi directed) = search (rules, after, either, value_judged stdin is e, values_judged stdin is entries)
  value_judged stdin is Stdin = is

  -- entries
  values_judged : (stdin : Result GraphData Panic) → IsJudged stdin → (entries : Entries) → IsJudged (values_of stdin entries)
  values_judged stdin is NoEntries = λ e. cc
  values_judged stdin is (EntryThen (Number n) others) = search (rules, after, values_judged stdin is others)
  values_judged stdin is (EntryThen (Graph e) others) = search (rules, after, value_judged stdin is e, values_judged stdin is others)

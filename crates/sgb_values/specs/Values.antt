-- The graphs that expressions name [GB_BASIC].
use Rattle.std.specs.Prelude.{◌≡◌, ◌⊎◌, ◌≤◌, ◌<◌, ℕ, ℤ, ◌^◌, pos, negsuc, min, List, [], ◌∷◌, length, Result, Ok, Err, ◌+◌}
use Rattle.sgb_vec.specs.Limits.{most_entry}
use Rattle.sgb_vec.specs.Results.{and_then}
use Rattle.sgb_vec.specs.declared.panics.Panic.{Panic}
use Rattle.sgb_vec.specs.declared.panics.Panic.TheVariants.{Syntax}
use Rattle.sgb_graph.specs.Descriptions.{Description}
use Rattle.sgb_graph.specs.Graphs.{GraphData}
use Rattle.sgb_file.specs.Refused.{IsRestoredAs}
use Rattle.sgb_gen.specs.Generators.{generator_value, made}
use Rattle.sgb_ops.specs.Complement.{complement_of}
use Rattle.sgb_ops.specs.Gunion.{gunion_of}
use Rattle.sgb_ops.specs.Intersection.{intersection_of}
use Rattle.sgb_ops.specs.Lines.{line_graph_of}
use Rattle.sgb_ops.specs.Product.{product_graph_of}
use Rattle.sgb_ops.specs.BiComplete.{bi_complete_of}
use Rattle.sgb_ops.specs.Wheel.{wheel_of}
use Rattle.sgb_ops.specs.Induced.{induced_of}
use Rattle.sgb_ops.specs.declared.induced_graphs.entries.Entry.{Entry}
use Rattle.sgb_ops.specs.declared.induced_graphs.entries.Entry.TheVariants as entry
use Rattle.sgb_expr.specs.Expression.{Expression, Generated, OfNumbers, OfGraph, OfGraphs, Induced, Stdin, OnNumbers, BiComplete, Wheel, OnGraph, Complement, Lines, OnGraphs, Gunion, Intersection, Product, Entry as EntryExpression, Number, Graph, Entries, NoEntries, EntryThen}

-- a file on standard input has at most this many bytes
abbrev pub most_input : ℕ
most_input = 2 ^ 30

-- the value of `stdin` where standard input has these bytes: what they are read as; too many are refused
abbrev pub IsStdinValue : List ℕ → Result GraphData Panic → Type 0
IsStdinValue input value = ((length input ≤ most_input) × IsRestoredAs input value) ⊎ ((most_input < length input) × (value ≡ Err Syntax))

-- two values, where the first's refusal comes before the second's
abbrev pub both : {T U : Type 0} → Result T Panic → Result U Panic → Result (T × U) Panic
both first second = and_then first (λ x. and_then second (λ y. Ok (x, y)))

-- the entry that a number stands for: so many copies, or -k for merged vertex k, each at most the greatest of 32 bits
abbrev pub numbered_entry : ℤ → Entry
numbered_entry (pos k) = entry.Copies (min k most_entry)
numbered_entry (negsuc k) = entry.Merged (min (k + 1) most_entry)

-- the graph of an operation on numbers
abbrev pub of_numbers : OnNumbers → Result Description Panic
of_numbers (BiComplete n1 n2 directed) = bi_complete_of n1 n2 directed
of_numbers (Wheel n n1 directed) = wheel_of n n1 directed

-- the graph of an operation on one graph
abbrev pub of_graph : OnGraph → GraphData → Result Description Panic
of_graph (Complement copy self_loops directed) g = complement_of g copy self_loops directed
of_graph (Lines directed) g = line_graph_of g directed

-- the graph of an operation on two graphs
abbrev pub of_graphs : OnGraphs → GraphData → GraphData → Result Description Panic
of_graphs (Gunion multi directed) g h = gunion_of g h multi directed
of_graphs (Intersection multi directed) g h = intersection_of g h multi directed
of_graphs (Product kind directed) g h = product_graph_of g h kind directed

abbrev mutual
  -- the graph of an expression where `stdin` has this value, or the first refusal: of its operands in order, then its own
  pub value_of : Result GraphData Panic → Expression → Result GraphData Panic
  value_of stdin (Generated f) = made (generator_value f)
  value_of stdin (OfNumbers operation) = made (of_numbers operation)
  value_of stdin (OfGraph operation e) = and_then (value_of stdin e) (λ g. made (of_graph operation g))
  value_of stdin (OfGraphs operation e f) =
      and_then (both (value_of stdin e) (value_of stdin f)) (λ operands. made (of_graphs operation operands.0 operands.1))
  value_of stdin (Induced e entries self_loops multi directed) =
      and_then (both (value_of stdin e) (values_of stdin entries)) (λ operands. made (induced_of operands.0 operands.1 self_loops multi directed))
  value_of stdin Stdin = stdin

  -- an entry, or why its graph is refused
  pub entry_value : Result GraphData Panic → EntryExpression → Result Entry Panic
  entry_value stdin (Number n) = Ok (numbered_entry n)
  entry_value stdin (Graph e) = and_then (value_of stdin e) (λ g. Ok (entry.Graph g))

  -- the entries in order, or the first refusal of a graph among them
  pub values_of : Result GraphData Panic → Entries → Result (List Entry) Panic
  values_of stdin NoEntries = Ok []
  values_of stdin (EntryThen first others) = and_then (both (entry_value stdin first) (values_of stdin others)) (λ p. Ok (p.0 ∷ p.1))

-- x is what f makes of the value of `stdin`, where standard input has these bytes
abbrev pub IsOn : {T : Type 0} → (Result GraphData Panic → T) → List ℕ → T → Type 0
IsOn f input x = (stdin : Result GraphData Panic) × IsStdinValue input stdin × (x ≡ f stdin)

-- the graph of an expression where standard input has these bytes, or the first refusal
abbrev pub IsValueOn : List ℕ → Expression → Result GraphData Panic → Type 0
IsValueOn input e value = IsOn (λ stdin. value_of stdin e) input value

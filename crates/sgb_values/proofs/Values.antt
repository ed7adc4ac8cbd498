-- Values of expressions, from those of their operands.
use Rattle.std.proofs.Common.{arith, ◌≡◌, ◌+◌, ℕ, Result, Ok, Err, ap, ◌||◌, ◌++◌, Bool, Box, Global, List, [], ◌∷◌, ◌∙◌, append_assoc, IfOk, IfErr}
use Rattle.sgb_vec.specs.Results.{and_then, IsValue}
use Rattle.sgb_vec.specs.declared.panics.Panic.{Panic}
use Rattle.sgb_graph.specs.Descriptions.{Description, IsAnswerOf}
use Rattle.sgb_graph.proofs.Described.{described_only}
use Rattle.sgb_graph.specs.Graphs.{GraphData}
use Rattle.sgb_expr.specs.Expression.{Expression, Generated, OfNumbers, OfGraph, OfGraphs, Induced, Stdin, OnGraphs, Entry, Number, Graph, Entries, NoEntries, EntryThen, expression_of, entries_of}
use Rattle.sgb_expr.specs.declared.expressions.Expr.{Expr}
use Rattle.sgb_gen.specs.Generators.{made}
use Rattle.sgb_values.specs.Values.{both, of_graphs, value_of, values_of}
use Rattle.sgb_ops.specs.Induced.{induced_of}
use Rattle.sgb_values.specs.inner.Operands.{graph_held}
use Rattle.sgb_values.specs.declared.evaluation.list_operations.Operand.{Operand}
use Rattle.sgb_expr.proofs.CodeExpressions.{induced_is}
use Rattle.sgb_expr.specs.CodeEntries.{items_of}
use Rattle.sgb_expr.specs.Listed.{listed}
use Rattle.sgb_expr.specs.StdinUses.{entries_have_stdin, has_stdin}
use Rattle.sgb_expr.specs.declared.expressions.Expr.TheVariants as expr
use Rattle.sgb_expr.specs.declared.entries.Entries as code_entries
use Rattle.sgb_expr.specs.declared.entries.EntryExpr.{EntryExpr}
use Rattle.sgb_ops.specs.declared.induced_graphs.entries.Entry as handed

-- what an operation or a generator returns is the graph that is described
pub value_made : (value : Result Description Panic) (r : Result GraphData Panic) → IsAnswerOf value r → IsValue (made value) r
value_made value r is = grind (arith, described_only)

-- what is made of an operand
pub value_then : {T U : Type 0} (operand : Result T Panic) (x : T) (make : T → Result U Panic) (r : Result U Panic)
    → operand ≡ Ok x → IsValue (make x) r → IsValue (and_then operand make) r
value_then operand x make r e is = rw e is

-- the first one's refusal
pub first_refused : {T U V : Type 0} (first : Result T Panic) (second : Result U Panic) (make : T × U → Result V Panic) (p : Panic) → IsValue first (Err p) → IsValue (and_then (both first second) make) (Err p)
first_refused first second make p h = grind (arith)

-- the second one's refusal
pub both_refused : {T U : Type 0} (first : Result T Panic) (second : Result U Panic) (x : T) (p : Panic) → first ≡ Ok x → IsValue second (Err p) → IsValue (both first second) (Err p)
both_refused first second x p e h = grind (arith)

-- the value of an operation on an operand that stands in a box
pub value_one : (make : GraphData → Result Description Panic) (stdin : Result GraphData Panic) (e f : Expr) (g : GraphData) (r : Result GraphData Panic) → e ≡ f → value_of stdin (expression_of e) ≡ Ok g
    → IsAnswerOf (make g) r → IsValue (and_then (value_of stdin (expression_of f)) (λ x. made (make x))) r
value_one make stdin e f g r same is answer = rw (← same, is) (value_made (make g) r answer)

-- a refusal of what something is made of
pub then_refused : {T U : Type 0} (v : Result T Panic) (make : T → Result U Panic) (p : Panic) → IsValue v (Err p) → IsValue (and_then v make) (Err p)
then_refused v make p h = grind (arith)

-- the value of an operation, where the second operand may be refused
pub lists_answered : (stdin : Result GraphData Panic) (e f : Expression) (g : GraphData) (second : Result Operand Panic) (result : Result GraphData Panic) (operation : OnGraphs)
    → value_of stdin e ≡ Ok g → IfOk second (λ o. value_of stdin f ≡ Ok (graph_held o)) → IfErr second (λ p. IsValue (value_of stdin f) (Err p))
    → IfOk second (λ o. IsAnswerOf (of_graphs operation g (graph_held o)) result) → IfErr second (λ p. result ≡ Err p)
    → IsValue (value_of stdin (OfGraphs operation e f)) result
lists_answered stdin e f g (Ok o) result operation first is refused answer err = rw (first, is) (value_made (of_graphs operation g (graph_held o)) result answer)
lists_answered stdin e f g (Err p) result operation first is refused answer err = rw err (then_refused _ _ p (both_refused _ _ g p first refused))

-- what it leaves, where it is made
pub lists_leave : {T : Type 0} (second : Result Operand Panic) (result : Result T Panic) (P : Type 0) → IfErr second (λ p. result ≡ Err p) → IfOk second (λ _. P) → IfOk result (λ _. P)
lists_leave (Ok o) (Ok x) P err left = left
lists_leave (Ok o) (Err p) P err left = tt
lists_leave (Err q) result P err left = rw err tt

-- the same of operands that stand in boxes
pub lists_same : (operation : OnGraphs) (stdin : Result GraphData Panic) (e f e' f' : Expr) (r : Result GraphData Panic) → e ≡ e' → f ≡ f'
    → IsValue (value_of stdin (OfGraphs operation (expression_of e) (expression_of f))) r
    → IsValue (value_of stdin (OfGraphs operation (expression_of e') (expression_of f'))) r
lists_same operation stdin e f e' f' r same alike is = rw (← same, ← alike) is

abbrev mutual
  -- how large an expression is: larger than its operands together
  pub size_of : Expression → ℕ
  size_of (Generated f) = 1
  size_of (OfNumbers operation) = 1
  size_of (OfGraph operation e) = size_of e + 2
  size_of (OfGraphs operation e f) = size_of e + size_of f + 3
  size_of (Induced e entries self_loops multi directed) = size_of e + size_of_entries entries + 3
  size_of Stdin = 1

  -- how large an entry is
  pub size_of_entry : Entry → ℕ
  size_of_entry (Number n) = 0
  size_of_entry (Graph e) = size_of e + 1

  -- how large entries are together
  pub size_of_entries : Entries → ℕ
  size_of_entries NoEntries = 0
  size_of_entries (EntryThen first others) = size_of_entry first + size_of_entries others

-- these values and then others
abbrev pub and_values : {T : Type 0} → List T → Result (List T) Panic → Result (List T) Panic
and_values done rest = and_then rest (λ others. Ok (done ++ others))

-- one more of them
pub one_more : {T : Type 0} (done : List T) (value : T) (first : Result T Panic) (others : Result (List T) Panic) → first ≡ Ok value
    → and_values (done ++ value ∷ []) others ≡ and_values done (and_then (both first others) (λ p. Ok (p.0 ∷ p.1)))
one_more done value first others e = grind (arith, append_assoc)

-- the value of an induced graph, of which that of the operand and those of the entries are known
pub induced_value : (stdin : Result GraphData Panic) (e : Expression) (es : Entries) (g : GraphData) (values : Result (List handed.Entry) Panic) (r : Result GraphData Panic) (self_loops multi directed : Bool)
    → value_of stdin e ≡ Ok g → values ≡ values_of stdin es → IsValue (and_then values (λ list. made (induced_of g list self_loops multi directed))) r
    → IsValue (value_of stdin (Induced e es self_loops multi directed)) r
induced_value stdin e es g values r self_loops multi directed one all h = grind (arith)

-- that of the code has the same
pub induced_same : (stdin : Result GraphData Panic) (e f : Expr) (es : List EntryExpr) (r : Result GraphData Panic) (graph : Box Expr Global) (entries : code_entries.Entries) (self_loops multi directed : Bool)
    → e ≡ expr.Induced graph entries self_loops multi directed → f ≡ graph.value → es ≡ items_of entries
    → IsValue (value_of stdin (Induced (expression_of f) (entries_of (listed es)) self_loops multi directed)) r
    → IsValue (value_of stdin (expression_of e)) r
induced_same stdin e f es r graph entries self_loops multi directed is alike same h =
    let whole = ap (λ x. value_of stdin (expression_of x)) is ∙ ap (value_of stdin) (induced_is graph entries self_loops multi directed) in
    grind (arith)

-- its size
pub induced_size : (e : Expr) (graph : Box Expr Global) (entries : code_entries.Entries) (self_loops multi directed : Bool) → e ≡ expr.Induced graph entries self_loops multi directed
    → size_of (expression_of e) ≡ size_of (expression_of graph.value) + size_of_entries (entries_of (listed (items_of entries))) + 3
induced_size e graph entries self_loops multi directed is =
    ap (λ x. size_of (expression_of x)) is ∙ ap size_of (induced_is graph entries self_loops multi directed)

-- whether it reads standard input
pub induced_reads : (e f : Expr) (es : List EntryExpr) (graph : Box Expr Global) (entries : code_entries.Entries) (self_loops multi directed : Bool) → e ≡ expr.Induced graph entries self_loops multi directed
    → f ≡ graph.value → es ≡ items_of entries → has_stdin (expression_of e) ≡ (has_stdin (expression_of f) || entries_have_stdin (entries_of (listed es)))
induced_reads e f es graph entries self_loops multi directed is alike same =
    let whole = ap (λ x. has_stdin (expression_of x)) is ∙ ap has_stdin (induced_is graph entries self_loops multi directed) in
    grind (arith)

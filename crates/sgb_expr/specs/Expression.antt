-- The expressions that name graphs, and which of them a value of the code is.
use Rattle.std.specs.Prelude.{Bool, ℤ, List, [], ◌∷◌}
use Rattle.sgb_expr.specs.declared.expressions.Expr.{Expr, Row_of-EntryExpr, end_of-EntryExpr, more_of-EntryExpr}
use Rattle.sgb_expr.specs.declared.expressions.Expr.TheVariants as expr
use Rattle.sgb_expr.specs.declared.entries.EntryExpr.{EntryExpr}
use Rattle.sgb_expr.specs.declared.entries.EntryExpr.TheVariants as entry
use Rattle.sgb_gen.specs.declared.params.Generator.{Generator}

-- an operation on numbers alone
pub data OnNumbers : Type 0 where
  BiComplete : (n1 n2 : ℤ) → (directed : Bool) → OnNumbers
  Wheel : (n n1 : ℤ) → (directed : Bool) → OnNumbers

-- an operation on a graph
pub data OnGraph : Type 0 where
  Complement : (copy self_loops directed : Bool) → OnGraph
  Lines : (directed : Bool) → OnGraph

-- an operation on two graphs
pub data OnGraphs : Type 0 where
  Gunion : (multi directed : Bool) → OnGraphs
  Intersection : (multi directed : Bool) → OnGraphs
  Product : (kind : ℤ) → (directed : Bool) → OnGraphs

mutual
  -- an expression that names a graph: a generator with its parameters, an operation on those inside, in order, or `stdin`
  pub data Expression : Type 0 where
    Generated : Generator → Expression
    OfNumbers : OnNumbers → Expression
    OfGraph : OnGraph → (graph : Expression) → Expression
    OfGraphs : OnGraphs → (first second : Expression) → Expression
    Induced : (graph : Expression) → (entries : Entries) → (self_loops multi directed : Bool) → Expression
    Stdin : Expression

  -- an entry of an induced graph: an integer or an expression
  pub data Entry : Type 0 where
    Number : ℤ → Entry
    Graph : Expression → Entry

  -- the entries of an induced graph, in order
  pub data Entries : Type 0 where
    NoEntries : Entries
    EntryThen : (entry : Entry) → (others : Entries) → Entries

-- a list of entries, as the entries of an induced graph
abbrev pub entries_of : List Entry → Entries
entries_of [] = NoEntries
entries_of (entry ∷ others) = EntryThen entry (entries_of others)

abbrev mutual
  -- the expression that a value of the code holds; p, q and shape say how that stands in memory alone
  pub expression_of : Expr → Expression
  expression_of (expr.Generator f) = Generated f
  expression_of (expr.Complement' p graph copy self_loops directed) = OfGraph (Complement copy self_loops directed) (expression_of graph)
  expression_of (expr.Gunion' p first q second multi directed) = OfGraphs (Gunion multi directed) (expression_of first) (expression_of second)
  expression_of (expr.Intersection' p first q second multi directed) =
      OfGraphs (Intersection multi directed) (expression_of first) (expression_of second)
  expression_of (expr.Lines' p graph directed) = OfGraph (Lines directed) (expression_of graph)
  expression_of (expr.Product' p first q second kind directed) = OfGraphs (Product kind directed) (expression_of first) (expression_of second)
  expression_of (expr.Induced' p graph shape entries self_loops multi directed) = Induced (expression_of graph) (row_entries entries) self_loops multi directed
  expression_of (expr.BiComplete n1 n2 directed) = OfNumbers (BiComplete n1 n2 directed)
  expression_of (expr.Wheel n n1 directed) = OfNumbers (Wheel n n1 directed)
  expression_of expr.Stdin = Stdin

  -- the entry that a value of the code holds
  pub entry_of : EntryExpr → Entry
  entry_of (entry.Number n) = Number n
  entry_of (entry.Graph' p e) = Graph (expression_of e)

  -- the entries that a `Vec` of the code holds, in order
  pub row_entries : {n : _} → Row_of-EntryExpr n → Entries
  row_entries end_of-EntryExpr = NoEntries
  row_entries (more_of-EntryExpr e others) = EntryThen (entry_of e) (row_entries others)

-- What the steps of reading an operation speak of.
use Rattle.std.specs.Prelude.{ℕ, ℤ, List, length, codes}
use Rattle.sgb_text.specs.Languages.{After, As, Or, Then}
use Rattle.sgb_expr.specs.Expression.{Expression, OnNumbers, OnGraph, OnGraphs, Entry, entries_of}
use Rattle.sgb_expr.specs.Forms.{AreArguments, AreSeparated, flag_at, nth_number}
use Rattle.sgb_expr.specs.Numbers.{IsInteger}

-- complement(graph,copy,self_loops,directed)
abbrev pub complement_call : Expression → List ℤ → Expression
complement_call graph numbers = Expression.OfGraph (OnGraph.Complement (flag_at numbers 0) (flag_at numbers 1) (flag_at numbers 2)) graph

-- two graphs, and two integers after them
pub record Operands : Type 0 where
  pub first : Expression
  pub second : Expression
  pub numbers : List ℤ

-- gunion(first,second,multi,directed)
abbrev pub gunion_call : Operands → Expression
gunion_call o = Expression.OfGraphs (OnGraphs.Gunion (flag_at o.numbers 0) (flag_at o.numbers 1)) o.first o.second

-- intersection(first,second,multi,directed)
abbrev pub intersection_call : Operands → Expression
intersection_call o = Expression.OfGraphs (OnGraphs.Intersection (flag_at o.numbers 0) (flag_at o.numbers 1)) o.first o.second

-- product(first,second,kind,directed)
abbrev pub product_call : Operands → Expression
product_call o = Expression.OfGraphs (OnGraphs.Product (nth_number o.numbers 0) (flag_at o.numbers 1)) o.first o.second

-- lines(graph,directed)
abbrev pub lines_call : Expression → List ℤ → Expression
lines_call graph numbers = Expression.OfGraph (OnGraph.Lines (flag_at numbers 0)) graph

-- induced(graph,entries,self_loops,multi,directed)
abbrev pub induced_call : Expression → List Entry → List ℤ → Expression
induced_call graph entries numbers = Expression.Induced graph (entries_of entries) (flag_at numbers 0) (flag_at numbers 1) (flag_at numbers 2)

-- bi_complete(n1,n2,directed)
abbrev pub bi_complete_call : List ℤ → Expression
bi_complete_call numbers = Expression.OfNumbers (OnNumbers.BiComplete (nth_number numbers 0) (nth_number numbers 1) (flag_at numbers 2))

-- wheel(n,n1,directed)
abbrev pub wheel_call : List ℤ → Expression
wheel_call numbers = Expression.OfNumbers (OnNumbers.Wheel (nth_number numbers 0) (nth_number numbers 1) (flag_at numbers 2))

-- two graphs and two integers, to a `)`, where Inner tells the texts of the expressions inside
abbrev pub AreTwoGraphs : (List ℕ → Expression → Type 0) → List ℕ → Operands → Type 0
AreTwoGraphs Inner =
    Then Inner (λ first. After (codes ",") (Then Inner (λ second.
    As (λ numbers. record { first = first; second = second; numbers = numbers }) (AreArguments (codes ",") 2))))

-- an entry: an integer or an expression, where Inner tells the texts of the expressions inside
abbrev pub IsEntry : (List ℕ → Expression → Type 0) → List ℕ → Entry → Type 0
IsEntry Inner = Or (As Entry.Number IsInteger) (As Entry.Graph Inner)

-- entries, each after a separator, which is `,` from the second on, and then a `]`
abbrev pub AreEntries : (List ℕ → Expression → Type 0) → List ℕ → List ℕ → List Entry → Type 0
AreEntries Inner separator text entries = AreSeparated (IsEntry Inner) separator (length entries) (codes "]") text entries

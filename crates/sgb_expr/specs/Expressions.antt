-- The expressions that name a graph, in GraphBase's official names; which texts are too large to be read.
use Rattle.std.specs.Prelude.{◌≡◌, ◌≤◌, ◌<◌, ◌+◌, ◌⊎◌, ◌==◌, ℕ, zero, suc, List, ◌++◌, length, take, count_by, codes, Result, Ok, Err}
use Rattle.sgb_expr.specs.Expression.{Expression, Generated, OfGraph, OfGraphs, Induced, expression_of}
use Rattle.sgb_text.specs.Languages.{After, As, IsLongestPrefixOf, IsNoWord}
use Rattle.sgb_expr.specs.Forms.{IsGeneratorCall}
use Rattle.sgb_expr.specs.Operations.{IsCallOf}
use Rattle.sgb_expr.specs.Names.{name_opening}
use Rattle.sgb_expr.specs.declared.expressions.Expr.{Expr}
use Rattle.sgb_expr.specs.declared.expressions.Unread.{Unread}
use Rattle.sgb_expr.specs.declared.expressions.Unread.TheVariants as unread
use Rattle.sgb_expr.specs.declared.names.GeneratorName.{GeneratorName}
use Rattle.sgb_expr.specs.declared.names.FormName.{FormName}
use Rattle.sgb_expr.specs.declared.names.FormName.TheVariants as form

-- the text is this expression, in which operations stand one in another at most so deep: a name, with a `(` where its form has
-- arguments, and these with `)`
abbrev pub IsNested : ℕ → List ℕ → Expression → Type 0
IsNested zero text e = (name : GeneratorName) × After (name_opening (form.Generator name)) (As Generated (IsGeneratorCall name)) text e
IsNested (suc depth) text e = (name : FormName) × After (name_opening name) (IsCallOf (IsNested depth) name) text e

-- the text is this expression
abbrev pub IsExpression : List ℕ → Expression → Type 0
IsExpression text e = (depth : ℕ) × IsNested depth text e

-- the text is too large, whatever it says: over 65,536 bytes, or over 64 more `(` (40) than `)` (41) in some prefix
abbrev pub IsTooLarge : List ℕ → Type 0
IsTooLarge text = (65_536 < length text)
    ⊎ ((k : ℕ) × (k ≤ length text) × (count_by (λ byte. byte == 41) (take k text) + 64 < count_by (λ byte. byte == 40) (take k text)))

-- what reading a text gives: something that stands for the value of which it is a word; or why it is not read: too large,
-- before all else; no word, with the length of the longest prefix that begins one; or out of memory, where reading takes some
abbrev pub IsTextRead : {V T : Type 0} → (List ℕ → V → Type 0) → (memory : Type 0) → (T → V) → List ℕ → Result T Unread → Type 0
IsTextRead Word memory stands_for text (Ok x) = (IsTooLarge text → ⊥) × Word text (stands_for x)
IsTextRead Word memory stands_for text (Err unread.TooLarge) = IsTooLarge text
IsTextRead Word memory stands_for text (Err (unread.At k)) = (IsTooLarge text → ⊥) × IsNoWord Word text × IsLongestPrefixOf Word text k
IsTextRead Word memory stands_for text (Err unread.NoRoom) = memory

-- an operation on graphs
abbrev pub IsOnGraphs : Expression → Type 0
IsOnGraphs (OfGraph operation e) = Unit {0}
IsOnGraphs (OfGraphs operation e f) = Unit {0}
IsOnGraphs (Induced e _ self_loops multi directed) = Unit {0}
IsOnGraphs _ = ⊥

-- reading the text takes memory: an operation on graphs stands in it as a whole, or the `[` of a list of entries does
abbrev pub TakesMemory : List ℕ → Type 0
TakesMemory text = (before part after : List ℕ) × (text ≡ before ++ (part ++ after))
    × ((part ≡ codes "[") ⊎ ((e : Expression) × IsExpression part e × IsOnGraphs e))

-- the text is read as this expression, or not read for this cause
abbrev pub IsExpressionRead : List ℕ → Result Expr Unread → Type 0
IsExpressionRead text = IsTextRead IsExpression (TakesMemory text) expression_of text

-- What the forms of all names mean: the arguments of each, where the expressions inside are words of a language.
use Rattle.std.specs.Prelude.{ℕ, ℤ, List, [], length, codes}
use Rattle.sgb_expr.specs.Expression.{Expression, OnNumbers, OnGraph, OnGraphs, Entry, entries_of}
use Rattle.sgb_expr.specs.Forms.{AreArguments, AreSeparated, IsGeneratorCall, flag_at, nth_number}
use Rattle.sgb_text.specs.Languages.{After, As, Fixed, Or, Then}
use Rattle.sgb_expr.specs.Numbers.{IsInteger}
use Rattle.sgb_expr.specs.declared.names.FormName.{FormName}
use Rattle.sgb_expr.specs.declared.names.FormName.TheVariants.{Generator, Complement, Gunion, Intersection, Lines, Product, Induced, BiComplete, Wheel, Stdin}

-- three integers, to a `)`, as the operation on numbers that is made of them
abbrev pub AreNumbers : (List ℤ → OnNumbers) → List ℕ → Expression → Type 0
AreNumbers make = As (λ numbers. Expression.OfNumbers (make numbers)) (AreArguments [] 3)

-- a graph and n integers, to a `)`, as the operation that is made of them, where Inner tells the texts of the expressions inside
abbrev pub AreOperand : (List ℕ → Expression → Type 0) → (List ℤ → OnGraph) → ℕ → List ℕ → Expression → Type 0
AreOperand Inner make n = Then Inner (λ graph. As (λ numbers. Expression.OfGraph (make numbers) graph) (AreArguments (codes ",") n))

-- two graphs, whose texts Inner tells, and two integers, to a `)`, as the operation that is made of them
abbrev pub AreOperands : (List ℕ → Expression → Type 0) → (List ℤ → OnGraphs) → List ℕ → Expression → Type 0
AreOperands Inner make = Then Inner (λ first. After (codes ",") (Then Inner (λ second.
    As (λ numbers. Expression.OfGraphs (make numbers) first second) (AreArguments (codes ",") 2))))

-- entries with commas between them, in brackets: each is an integer, or an expression, whose texts Inner tells
abbrev pub IsEntryList : (List ℕ → Expression → Type 0) → List ℕ → List Entry → Type 0
IsEntryList Inner text entries =
    After (codes "[") (AreSeparated (Or (As Entry.Number IsInteger) (As Entry.Graph Inner)) [] (length entries) (codes "]")) text entries

-- the text is what follows the name in the form of this name: the parts of the expression in their order, to a `)`, where Inner
-- tells the texts of the expressions inside; nothing after `stdin`
abbrev pub IsCallOf : (List ℕ → Expression → Type 0) → FormName → List ℕ → Expression → Type 0
IsCallOf Inner (Generator name) = As Expression.Generated (IsGeneratorCall name)
IsCallOf Inner Complement = AreOperand Inner (λ numbers. OnGraph.Complement (flag_at numbers 0) (flag_at numbers 1) (flag_at numbers 2)) 3
IsCallOf Inner Gunion = AreOperands Inner (λ numbers. OnGraphs.Gunion (flag_at numbers 0) (flag_at numbers 1))
IsCallOf Inner Intersection = AreOperands Inner (λ numbers. OnGraphs.Intersection (flag_at numbers 0) (flag_at numbers 1))
IsCallOf Inner Lines = AreOperand Inner (λ numbers. OnGraph.Lines (flag_at numbers 0)) 1
IsCallOf Inner Product = AreOperands Inner (λ numbers. OnGraphs.Product (nth_number numbers 0) (flag_at numbers 1))
IsCallOf Inner Induced = Then Inner (λ graph. After (codes ",") (Then (IsEntryList Inner) (λ entries.
    As (λ numbers. Expression.Induced graph (entries_of entries) (flag_at numbers 0) (flag_at numbers 1) (flag_at numbers 2))
    (AreArguments (codes ",") 3))))
IsCallOf Inner BiComplete = AreNumbers (λ numbers. OnNumbers.BiComplete (nth_number numbers 0) (nth_number numbers 1) (flag_at numbers 2))
IsCallOf Inner Wheel = AreNumbers (λ numbers. OnNumbers.Wheel (nth_number numbers 0) (nth_number numbers 1) (flag_at numbers 2))
IsCallOf Inner Stdin = Fixed Expression.Stdin []

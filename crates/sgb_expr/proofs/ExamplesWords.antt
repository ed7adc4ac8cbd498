-- Texts of the forms of expressions, and what each says: the definitions themselves, at each place of each form.
use Rattle.std.proofs.Common.{◌≡◌, ◌≤◌, ◌++◌, ℕ, suc, Bool, true, false, List, [], ◌∷◌, map, length, codes, ap, refl, inl, inr, pos, negsuc, arith}
use Rattle.std.specs.Prelude.{ℤ, slice_index}
use Rattle.std.specs.List.{list_all}
use Rattle.std.specs.Char.{is_digit}
use Rattle.std.specs.Str.Parse.{AllDigits}
use Rattle.std.proofs.lemmas.Bool.{and_parts}
use Rattle.std.proofs.lemmas.Bool.Decides.{nat_tests}
use Rattle.sgb_text.specs.Languages.{Fixed}
use Rattle.sgb_gen.specs.Shorthands.{complete, transitive, empty, circuit, cycle, disjoint_subsets, petersen}
use Rattle.sgb_gen.specs.declared.params.Generator.TheVariants as generator
use Rattle.sgb_expr.specs.CodeEntries.{items_of}
use Rattle.sgb_expr.specs.Expression.{Expression, OnNumbers, OnGraph, OnGraphs, Entry, Entries, expression_of}
use Rattle.sgb_expr.specs.Expressions.{IsNested, IsExpression, TakesMemory}
use Rattle.sgb_expr.specs.FlipTexts.{IsFlip}
use Rattle.sgb_expr.specs.Forms.{flag_of, nth_number, AreSeparated, AreArguments, IsGeneratorCall}
use Rattle.sgb_expr.specs.Listed.{listed}
use Rattle.sgb_expr.specs.Numbers.{IsInteger, IsBits}
use Rattle.sgb_expr.specs.Operations.{IsEntryList, IsCallOf}
use Rattle.sgb_expr.specs.declared.entries.Entries.{Entries as CodeEntries}
use Rattle.sgb_expr.specs.declared.entries.EntryExpr.{EntryExpr}
use Rattle.sgb_expr.specs.declared.entries.EntryExpr.TheVariants as entry
use Rattle.sgb_expr.specs.declared.expressions.Expr.{Expr}
use Rattle.sgb_expr.specs.declared.expressions.Expr.TheVariants as expr
use Rattle.sgb_expr.specs.declared.names.GeneratorName.TheVariants.{Board, Simplex, Subsets, Complete, Transitive, Empty, Circuit, Cycle, DisjointSubsets, Petersen}
use Rattle.sgb_expr.specs.declared.names.FormName.TheVariants.{Complement, Gunion, Intersection, Lines, Product, Induced, BiComplete, Wheel, Stdin}

-- ---- numbers

-- digits, told byte by byte
digits_are : (radix : ℕ) (text : List ℕ) → list_all (λ byte. is_digit byte radix) text ≡ true → AllDigits radix text
digits_are radix [] h = tt
digits_are radix (byte ∷ text) h = grind (arith, nat_tests, and_parts, digits_are radix text)

-- eighteen digits are an integer, and eighteen after a minus; nineteen are none
eighteen : IsInteger (codes "000000000000000012") (pos 12)
eighteen = inr (12, record { numeral = (omega arith, digits_are 10 (codes "000000000000000012") refl); short = omega arith; writes = refl }, refl)

eighteen_after_minus : IsInteger (codes "-000000000000000012") (negsuc 11)
eighteen_after_minus = inl (codes "000000000000000012", refl, (12, record { numeral = (omega arith, digits_are 10 (codes "000000000000000012") refl); short = omega arith; writes = refl }, refl))

nineteen : (i : ℤ) → IsInteger (codes "0000000000000000012") i → ⊥
nineteen i (inl (rest, text, others)) = let first : 48 ≡ 45 = ap (λ t. slice_index t 0) text in absurd (omega (arith, first))
nineteen i (inr (n, number, is)) = let many : 19 ≤ 18 = number.short in absurd (omega (arith, many))

-- bits: thirty-two digits of the radix 16 after `0x`, and one digit more; digits of the radix 10
thirty_two : IsBits (codes "0x0000000000000000000000000000001F") 31
thirty_two = inl (codes "0000000000000000000000000000001F", refl, record { numeral = (omega arith, digits_are 16 (codes "0000000000000000000000000000001F") refl); short = omega arith; writes = refl })

thirty_three : (k : ℕ) → IsBits (codes "0x00000000000000000000000000000001F") k → ⊥
thirty_three k (inl (rest, text, number)) = let all : 35 ≡ suc (suc (length rest)) = ap (λ t. length t) text in absurd (omega (arith, all, number.short))
thirty_three k (inr number) = let many : 35 ≤ 18 = number.short in absurd (omega (arith, many))

decimal_bits : IsBits (codes "12") 12
decimal_bits = inr (record { numeral = (omega arith, digits_are 10 (codes "12") refl); short = omega arith; writes = refl })

-- ---- arguments

-- flags as arguments: `1` and `0`
abbrev numbers : List Bool → List ℤ
numbers [] = []
numbers (true ∷ flags) = pos 1 ∷ numbers flags
numbers (false ∷ flags) = pos 0 ∷ numbers flags

abbrev written : List ℕ → List ℕ → List Bool → List ℕ
written separator end [] = end
written separator end (true ∷ flags) = separator ++ (codes "1" ++ written (codes ",") end flags)
written separator end (false ∷ flags) = separator ++ (codes "0" ++ written (codes ",") end flags)

one : IsInteger (codes "1") (pos 1)
one = inr (1, record { numeral = (omega arith, (omega arith, tt)); short = omega arith; writes = refl }, refl)

none : IsInteger (codes "0") (pos 0)
none = inr (0, record { numeral = (omega arith, (omega arith, tt)); short = omega arith; writes = refl }, refl)

-- the first after a separator, and each other one after a comma, to the end
separated : (separator end : List ℕ) (flags : List Bool) → AreSeparated IsInteger separator (length flags) end (written separator end flags) (numbers flags)
separated separator end [] = (refl, refl)
separated separator end (true ∷ flags) = (codes "1" ++ written (codes ",") end flags, refl, (codes "1", written (codes ",") end flags, pos 1, refl, one, (numbers flags, separated (codes ",") end flags, refl)))
separated separator end (false ∷ flags) = (codes "0" ++ written (codes ",") end flags, refl, (codes "0", written (codes ",") end flags, pos 0, refl, none, (numbers flags, separated (codes ",") end flags, refl)))

arguments : (separator : List ℕ) (flags : List Bool) → AreArguments separator (length flags) (written separator (codes ")") flags) (numbers flags)
arguments separator flags = separated separator (codes ")") flags

-- an integer that is missing is 0, and as a flag each but 0 is true
missing : nth_number [] 0 ≡ pos 0
missing = refl

flags_are : map flag_of (pos 0 ∷ pos 1 ∷ negsuc 0 ∷ []) ≡ false ∷ true ∷ true ∷ []
flags_are = refl

-- ---- generators

abbrev seven : List Bool
seven = true ∷ false ∷ true ∷ true ∷ false ∷ false ∷ true ∷ []

board_call : IsGeneratorCall Board (codes "1,0,1,1,0,0,1)") (generator.Board (record { n1 = pos 1; n2 = pos 0; n3 = pos 1; n4 = pos 1; piece = pos 0; wrap = pos 0; directed = true }))
board_call = (numbers seven, arguments [] seven, refl)

simplex_call : IsGeneratorCall Simplex (codes "1,0,1,1,0,0,1)") (generator.Simplex (record { n = pos 1; n0 = pos 0; n1 = pos 1; n2 = pos 1; n3 = pos 0; n4 = pos 0; directed = true }))
simplex_call = (numbers seven, arguments [] seven, refl)

-- the bits of sizes stand before the last flag
subsets_call : IsGeneratorCall Subsets (codes "1,0,1,1,0,0,12,1)") (generator.Subsets (record { n = pos 1; n0 = pos 0; n1 = pos 1; n2 = pos 1; n3 = pos 0; n4 = pos 0; size_bits = 12; directed = true }))
subsets_call = (
  codes "1,0,1,1,0,0,",
  codes "12,1)",
  numbers (true ∷ false ∷ true ∷ true ∷ false ∷ false ∷ []),
  refl,
  separated [] (codes ",") (true ∷ false ∷ true ∷ true ∷ false ∷ false ∷ []),
  (codes "12", codes ",1)", 12, refl, decimal_bits, (pos 1 ∷ [], arguments (codes ",") (true ∷ []), refl)),
)

-- the short names of boards, each of one integer
short_calls : IsGeneratorCall Complete (codes "1)") (generator.Board (complete (pos 1))) × IsGeneratorCall Transitive (codes "1)") (generator.Board (transitive (pos 1)))
    × IsGeneratorCall Empty (codes "1)") (generator.Board (empty (pos 1))) × IsGeneratorCall Circuit (codes "1)") (generator.Board (circuit (pos 1)))
    × IsGeneratorCall Cycle (codes "1)") (generator.Board (cycle (pos 1)))
short_calls = let one_argument = arguments [] (true ∷ []) in
    ((pos 1 ∷ [], one_argument, refl), (pos 1 ∷ [], one_argument, refl), (pos 1 ∷ [], one_argument, refl), (pos 1 ∷ [], one_argument, refl), (pos 1 ∷ [], one_argument, refl))

-- those of subsets, of two integers and of none
subsets_calls : IsGeneratorCall DisjointSubsets (codes "0,1)") (generator.Subsets (disjoint_subsets (pos 0) (pos 1))) × IsGeneratorCall Petersen (codes ")") (generator.Subsets petersen)
subsets_calls = ((pos 0 ∷ pos 1 ∷ [], arguments [] (false ∷ true ∷ []), refl), ([], arguments [] [], refl))

-- ---- operations

-- the one expression that stands inside, where nothing else can
abbrev inside : List ℕ → Expression → Type 0
inside = Fixed Expression.Stdin (codes "stdin")

operand_calls : IsCallOf inside Complement (codes "stdin,1,0,1)") (Expression.OfGraph (OnGraph.Complement true false true) Expression.Stdin)
    × IsCallOf inside Lines (codes "stdin,1)") (Expression.OfGraph (OnGraph.Lines true) Expression.Stdin)
operand_calls = (
  (codes "stdin", codes ",1,0,1)", Expression.Stdin, refl, (refl, refl), (pos 1 ∷ pos 0 ∷ pos 1 ∷ [], arguments (codes ",") (true ∷ false ∷ true ∷ []), refl)),
  (codes "stdin", codes ",1)", Expression.Stdin, refl, (refl, refl), (pos 1 ∷ [], arguments (codes ",") (true ∷ []), refl)),
)

-- with 0 and 1 after the two graphs
operands_calls : IsCallOf inside Gunion (codes "stdin,stdin,0,1)") (Expression.OfGraphs (OnGraphs.Gunion false true) Expression.Stdin Expression.Stdin)
    × IsCallOf inside Intersection (codes "stdin,stdin,0,1)") (Expression.OfGraphs (OnGraphs.Intersection false true) Expression.Stdin Expression.Stdin)
    × IsCallOf inside Product (codes "stdin,stdin,0,1)") (Expression.OfGraphs (OnGraphs.Product (pos 0) true) Expression.Stdin Expression.Stdin)
operands_calls = let two = arguments (codes ",") (false ∷ true ∷ []) in (
  (codes "stdin", codes ",stdin,0,1)", Expression.Stdin, refl, (refl, refl), (codes "stdin,0,1)", refl, (codes "stdin", codes ",0,1)", Expression.Stdin, refl, (refl, refl), (pos 0 ∷ pos 1 ∷ [], two, refl)))),
  (codes "stdin", codes ",stdin,0,1)", Expression.Stdin, refl, (refl, refl), (codes "stdin,0,1)", refl, (codes "stdin", codes ",0,1)", Expression.Stdin, refl, (refl, refl), (pos 0 ∷ pos 1 ∷ [], two, refl)))),
  (codes "stdin", codes ",stdin,0,1)", Expression.Stdin, refl, (refl, refl), (codes "stdin,0,1)", refl, (codes "stdin", codes ",0,1)", Expression.Stdin, refl, (refl, refl), (pos 0 ∷ pos 1 ∷ [], two, refl)))),
)

-- entries: an integer and an expression
entry_list : IsEntryList inside (codes "[1,stdin]") (Entry.Number (pos 1) ∷ Entry.Graph Expression.Stdin ∷ [])
entry_list = (
  codes "1,stdin]",
  refl,
  (
    codes "1,stdin]",
    refl,
    (
      codes "1",
      codes ",stdin]",
      Entry.Number (pos 1),
      refl,
      inl (pos 1, one, refl),
      (Entry.Graph Expression.Stdin ∷ [], (codes "stdin]", refl, (codes "stdin", codes "]", Entry.Graph Expression.Stdin, refl, inr (Expression.Stdin, (refl, refl), refl), ([], (refl, refl), refl))), refl),
    ),
  ),
)

induced_call : IsCallOf inside Induced (codes "stdin,[1,stdin],1,0,1)")
    (Expression.Induced Expression.Stdin (Entries.EntryThen (Entry.Number (pos 1)) (Entries.EntryThen (Entry.Graph Expression.Stdin) Entries.NoEntries)) true false true)
induced_call = (
  codes "stdin",
  codes ",[1,stdin],1,0,1)",
  Expression.Stdin,
  refl,
  (refl, refl),
  (
    codes "[1,stdin],1,0,1)",
    refl,
    (codes "[1,stdin]", codes ",1,0,1)", Entry.Number (pos 1) ∷ Entry.Graph Expression.Stdin ∷ [], refl, entry_list, (pos 1 ∷ pos 0 ∷ pos 1 ∷ [], arguments (codes ",") (true ∷ false ∷ true ∷ []), refl)),
  ),
)

number_calls : IsCallOf inside BiComplete (codes "1,0,1)") (Expression.OfNumbers (OnNumbers.BiComplete (pos 1) (pos 0) true)) × IsCallOf inside Wheel (codes "1,0,1)") (Expression.OfNumbers (OnNumbers.Wheel (pos 1) (pos 0) true))
number_calls = let three = arguments [] (true ∷ false ∷ true ∷ []) in ((pos 1 ∷ pos 0 ∷ pos 1 ∷ [], three, refl), (pos 1 ∷ pos 0 ∷ pos 1 ∷ [], three, refl))

stdin_call : IsCallOf inside Stdin [] Expression.Stdin
stdin_call = (refl, refl)

-- ---- expressions

-- a generator stands alone; the line graph of standard input is one operation over another name
alone : IsNested 0 (codes "petersen()") (Expression.Generated (generator.Subsets petersen))
alone = (Petersen, (codes ")", refl, (generator.Subsets petersen, subsets_calls.1, refl)))

lines_is : IsExpression (codes "lines(stdin,1)") (Expression.OfGraph (OnGraph.Lines true) Expression.Stdin)
lines_is = (2, (Lines, (codes "stdin,1)", refl, (codes "stdin", codes ",1)", Expression.Stdin, refl, (Stdin, ([], refl, (refl, refl))), (pos 1 ∷ [], arguments (codes ",") (true ∷ []), refl)))))

-- texts that take memory, though they are none: with a line graph that is whole, with the `[` of entries
takes_memory : TakesMemory (codes "gunion(lines(stdin,1)x") × TakesMemory (codes "induced(stdin,[1")
takes_memory = (
  (codes "gunion(", codes "lines(stdin,1)", codes "x", refl, inr (Expression.OfGraph (OnGraph.Lines true) Expression.Stdin, lines_is, tt)),
  (codes "induced(stdin,", codes "[", codes "1", refl, inl refl),
)

-- start, skip, count and m
flip_is : IsFlip (codes "flip(1,0,1,1)") (record { start = pos 1; skip = pos 0; count = pos 1; m = pos 1 })
flip_is = (codes "1,0,1,1)", refl, (pos 1 ∷ pos 0 ∷ pos 1 ∷ pos 1 ∷ [], arguments [] (true ∷ false ∷ true ∷ true ∷ []), refl))

-- ---- values of the code

-- two graphs and their flags; the operations have the same parts
unions : (p : _) (first : Expr) (q : _) (second : Expr) → expression_of (expr.Gunion' p first q second true false) ≡ Expression.OfGraphs (OnGraphs.Gunion true false) (expression_of first) (expression_of second)
unions p first q second = refl

intersections : (p : _) (first : Expr) (q : _) (second : Expr) → expression_of (expr.Intersection' p first q second true false) ≡ Expression.OfGraphs (OnGraphs.Intersection true false) (expression_of first) (expression_of second)
intersections p first q second = refl

-- entries in their order
in_order : (entries : CodeEntries) (a b : EntryExpr) → entries.list.items ≡ a ∷ b ∷ [] → items_of entries ≡ a ∷ b ∷ []
in_order entries a b are = are

two_listed : listed (entry.Number (pos 1) ∷ entry.Number (pos 2) ∷ []) ≡ Entry.Number (pos 1) ∷ Entry.Number (pos 2) ∷ []
two_listed = refl

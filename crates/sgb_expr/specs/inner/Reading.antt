-- Reading an expression from the beginning of a text: its name, and then its form alone.
use Rattle.std.specs.Prelude.{ℕ, ℤ, zero, suc, List, [], ◌∷◌, length, codes, Result, Ok}
use Rattle.sgb_gen.specs.Shorthands.{complete, transitive, empty, circuit, cycle, disjoint_subsets, petersen}
use Rattle.sgb_expr.specs.Expression.{Expression, Entry}
use Rattle.sgb_expr.specs.Forms.{nth_number, board_params, simplex_params, subsets_params}
use Rattle.sgb_expr.specs.inner.Operations.{Operands, complement_call, gunion_call, intersection_call, product_call, lines_call, induced_call, bi_complete_call, wheel_call}
use Rattle.sgb_expr.specs.inner.Names.{generator_openings, openings}
use Rattle.sgb_text.proofs.Readings.{◌>>=◌, either, or_else, then_read, read_after, read_as, fixed_as, word_at, whole_by}
use Rattle.sgb_expr.specs.inner.Readings.{bits_at, integer_at, integers_at}
use Rattle.sgb_gen.specs.declared.params.Generator.{Generator}
use Rattle.sgb_gen.specs.declared.params.Generator.TheVariants as generator
use Rattle.sgb_expr.specs.declared.names.GeneratorName.{GeneratorName}
use Rattle.sgb_expr.specs.declared.names.GeneratorName.TheVariants.{Board, Simplex, Subsets, Complete, Transitive, Empty, Circuit, Cycle, DisjointSubsets, Petersen}
use Rattle.sgb_expr.specs.declared.names.FormName.{FormName}
use Rattle.sgb_expr.specs.declared.names.FormName.TheVariants as name

-- n integers to a `)`, as the generator with its parameters that is made of them
abbrev pub integers_as : (List ℤ → Generator) → ℕ → List ℕ → Result (Generator × List ℕ) ℕ
integers_as make n text = integers_at [] n (codes ")") text >>= λ read. Ok (make read.0, read.1)

-- the arguments of subsets
abbrev pub subsets_at : List ℕ → Result (Generator × List ℕ) ℕ
subsets_at text =
    integers_at [] 6 (codes ",") text >>= λ numbers.
    bits_at numbers.1 >>= λ bits.
    integers_at (codes ",") 1 (codes ")") bits.1 >>= λ directed.
    Ok (generator.Subsets (subsets_params numbers.0 bits.0 (nth_number directed.0 0)), directed.1)

-- the arguments of the generator's form of this name
abbrev pub generator_at : GeneratorName → List ℕ → Result (Generator × List ℕ) ℕ
generator_at Board = integers_as (λ numbers. generator.Board (board_params numbers)) 7
generator_at Simplex = integers_as (λ numbers. generator.Simplex (simplex_params numbers)) 7
generator_at Subsets = subsets_at
generator_at Complete = integers_as (λ numbers. generator.Board (complete (nth_number numbers 0))) 1
generator_at Transitive = integers_as (λ numbers. generator.Board (transitive (nth_number numbers 0))) 1
generator_at Empty = integers_as (λ numbers. generator.Board (empty (nth_number numbers 0))) 1
generator_at Circuit = integers_as (λ numbers. generator.Board (circuit (nth_number numbers 0))) 1
generator_at Cycle = integers_as (λ numbers. generator.Board (cycle (nth_number numbers 0))) 1
generator_at DisjointSubsets = integers_as (λ numbers. generator.Subsets (disjoint_subsets (nth_number numbers 0) (nth_number numbers 1))) 2
generator_at Petersen = integers_as (λ numbers. generator.Subsets petersen) 0

-- a generator's arguments, as an expression
abbrev pub generator_expression_at : GeneratorName → List ℕ → Result (Expression × List ℕ) ℕ
generator_expression_at name = read_as Expression.Generated (generator_at name)

-- a graph and three integers, to a `)`, where `inner` reads the expressions inside
abbrev pub complement_with : (List ℕ → Result (Expression × List ℕ) ℕ) → List ℕ → Result (Expression × List ℕ) ℕ
complement_with inner = then_read inner (λ graph. read_as (complement_call graph) (integers_at (codes ",") 3 (codes ")")))

-- a graph and an integer, to a `)`, where `inner` reads the expressions inside
abbrev pub lines_with : (List ℕ → Result (Expression × List ℕ) ℕ) → List ℕ → Result (Expression × List ℕ) ℕ
lines_with inner = then_read inner (λ graph. read_as (lines_call graph) (integers_at (codes ",") 1 (codes ")")))

-- two graphs and two integers, to a `)`, where `inner` reads the expressions inside
abbrev pub operands_with : (List ℕ → Result (Expression × List ℕ) ℕ) → List ℕ → Result (Operands × List ℕ) ℕ
operands_with inner =
    then_read inner (λ first. read_after (codes ",") (then_read inner (λ second.
    read_as (λ numbers. record { first = first; second = second; numbers = numbers }) (integers_at (codes ",") 2 (codes ")")))))

-- an entry, where `inner` reads the expressions inside
abbrev pub entry_at : (List ℕ → Result (Expression × List ℕ) ℕ) → List ℕ → Result (Entry × List ℕ) ℕ
entry_at inner text = either (read_as Entry.Number integer_at text) (read_as Entry.Graph inner text)

-- a `]`, or an entry after this separator and what `others` reads
abbrev pub entries_then : (List ℕ → Result (Expression × List ℕ) ℕ) → (List ℕ → Result (List Entry × List ℕ) ℕ) → List ℕ → List ℕ → Result (List Entry × List ℕ) ℕ
entries_then inner others separator text =
    or_else (fixed_as [] (codes "]") text)
    (read_after separator (then_read (entry_at inner) (λ entry. read_as (λ more. entry ∷ more) others)) text)

-- so many entries at most, each after a separator, which is `,` from the second on, and then a `]`
abbrev pub entries_for : (List ℕ → Result (Expression × List ℕ) ℕ) → ℕ → List ℕ → List ℕ → Result (List Entry × List ℕ) ℕ
entries_for inner zero separator = fixed_as [] (codes "]")
entries_for inner (suc most) separator = entries_then inner (entries_for inner most (codes ",")) separator

-- entries to a `]`: no text has room for more than one of them beyond its bytes
unfoldable pub entries_at : (List ℕ → Result (Expression × List ℕ) ℕ) → List ℕ → List ℕ → Result (List Entry × List ℕ) ℕ
entries_at inner separator text = entries_for inner (suc (length text)) separator text

-- entries in brackets
abbrev pub entry_list_at : (List ℕ → Result (Expression × List ℕ) ℕ) → List ℕ → Result (List Entry × List ℕ) ℕ
entry_list_at inner = read_after (codes "[") (entries_at inner [])

-- a graph, entries and three integers, to a `)`, where `inner` reads the expressions inside
abbrev pub induced_with : (List ℕ → Result (Expression × List ℕ) ℕ) → List ℕ → Result (Expression × List ℕ) ℕ
induced_with inner =
    then_read inner (λ graph. read_after (codes ",") (then_read (entry_list_at inner) (λ entries.
    read_as (induced_call graph entries) (integers_at (codes ",") 3 (codes ")")))))

-- the arguments of the form of this name, where `inner` reads the expressions inside; `stdin` has none
abbrev pub arguments_with : (List ℕ → Result (Expression × List ℕ) ℕ) → FormName → List ℕ → Result (Expression × List ℕ) ℕ
arguments_with inner (name.Generator generator) = generator_expression_at generator
arguments_with inner name.Complement = complement_with inner
arguments_with inner name.Gunion = read_as gunion_call (operands_with inner)
arguments_with inner name.Intersection = read_as intersection_call (operands_with inner)
arguments_with inner name.Lines = lines_with inner
arguments_with inner name.Product = read_as product_call (operands_with inner)
arguments_with inner name.Induced = induced_with inner
arguments_with inner name.BiComplete = read_as bi_complete_call (integers_at [] 3 (codes ")"))
arguments_with inner name.Wheel = read_as wheel_call (integers_at [] 3 (codes ")"))
arguments_with inner name.Stdin = fixed_as Expression.Stdin []

-- the expression with which the text begins, where operations stand one in another at most so deep
abbrev pub nested_at : ℕ → List ℕ → Result (Expression × List ℕ) ℕ
nested_at zero = then_read (word_at generator_openings) generator_expression_at
nested_at (suc depth) = then_read (word_at openings) (arguments_with (nested_at depth))

-- the expression with which the text begins: no text has room for operations deeper than it has bytes
unfoldable pub expression_at : List ℕ → Result (Expression × List ℕ) ℕ
expression_at text = nested_at (length text) text

-- the expression that the text is
abbrev pub whole_at : List ℕ → Result Expression ℕ
whole_at = whole_by expression_at

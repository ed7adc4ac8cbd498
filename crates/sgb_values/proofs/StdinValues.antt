-- What standard input is read for: values depend on it only through the graph that it is a file of, and only where an expression
-- reads it.
use Rattle.sgb_vec.proofs.Common.{◌≡◌, ◌⊎◌, ◌≤◌, ◌<◌, ◌+◌, ℕ, true, false, cond, nat_le, List, length, take, Result, Err, refl, arith, leb-true, leb-false, nat_tests, length-take-le, take_all}
use Rattle.sgb_vec.specs.Results.{IsValue}
use Rattle.sgb_vec.specs.declared.panics.Panic.{Panic}
use Rattle.sgb_vec.specs.declared.panics.Panic.TheVariants.{NoRoom, Syntax}
use Rattle.sgb_graph.specs.Graphs.{GraphData}
use Rattle.sgb_file.specs.Refused.{IsRestoredAs}
use Rattle.sgb_file.proofs.RefusedTexts.{a_reader, restored_same}
use Rattle.sgb_expr.specs.Expression.{Expression, Generated, OfNumbers, OfGraph, OfGraphs, Induced, Stdin, Number, Graph, Entries, NoEntries, EntryThen, expression_of}
use Rattle.sgb_expr.specs.StdinUses.{entries_have_stdin, has_stdin}
use Rattle.sgb_gen.specs.Generators.{generator_value, made}
use Rattle.sgb_values.specs.Values.{IsOn, IsStdinValue, IsValueOn, most_input, value_of, values_of}
use Rattle.sgb_values.specs.inner.StdinValues.{GivesStdin}
use Rattle.sgb_expr.specs.declared.expressions.Expr.{Expr}
use Rattle.sgb_expr.specs.declared.expressions.Expr.TheVariants as expr
use Rattle.sgb_gen.specs.declared.params.Generator.{Generator}

-- what a text is read as, where it has at most so many bytes; a longer one is refused
abbrev IsWithin : ℕ → List ℕ → Result GraphData Panic → Type 0
IsWithin most text value = ((length text ≤ most) × IsRestoredAs text value) ⊎ ((most < length text) × (value ≡ Err Syntax))

-- that is the same for a text and for what is kept of it
cut_alike : (most : ℕ) (text : List ℕ) (v w : Result GraphData Panic) → IsWithin most (take (most + 1) text) v → IsWithin most text w → v ≡ w
cut_alike most text v w is also = grind (arith, restored_same, take_all, length-take-le)

-- `stdin` has one value
pub stdin_same : (input : List ℕ) (v w : Result GraphData Panic) → IsStdinValue input v → IsStdinValue input w → v ≡ w
stdin_same input v w is also = grind (arith, restored_same)

-- so it has on what is kept of standard input
pub stdin_cut : (stdin : List ℕ → Result GraphData Panic) → GivesStdin stdin → (input : List ℕ) → stdin (take (most_input + 1) input) ≡ stdin input
stdin_cut stdin gives input = cut_alike most_input input (stdin (take (most_input + 1) input)) (stdin input) (gives (take (most_input + 1) input)) (gives input)

-- a function that gives it, by one that reads texts
abbrev value_within : (List ℕ → Result GraphData Panic) → ℕ → List ℕ → Result GraphData Panic
value_within read most text = cond (nat_le (length text) most) (read text) (Err Syntax)

is_within : (read : List ℕ → Result GraphData Panic) → ((text : List ℕ) → IsRestoredAs text (read text)) → (most : ℕ) (text : List ℕ) → IsWithin most text (value_within read most text)
is_within read is most text = grind (arith, nat_tests)

pub stdin_given : (stdin : List ℕ → Result GraphData Panic) × GivesStdin stdin
stdin_given =
    let (read, is) = a_reader in
    (value_within read most_input, is_within read is most_input)

-- a text that is too long
pub stdin_long : (input : List ℕ) (v : Result GraphData Panic) → nat_le (length input) most_input ≡ false → IsStdinValue input v → v ≡ Err Syntax
stdin_long input v more is = grind (arith, leb-false)

-- what is read of a text that is not, or want of memory
pub stdin_read : (input : List ℕ) (v r : Result GraphData Panic) → nat_le (length input) most_input ≡ true → IsRestoredAs input r ⊎ (r ≡ Err NoRoom) → IsStdinValue input v → IsValue v r
stdin_read input v r fits read is = grind (arith, leb-true, restored_same)

mutual
  -- the graph of an expression, where `stdin` has the same value, or where it does not read
  pub value_same : (a b : Result GraphData Panic) (e : Expression) → (has_stdin e ≡ true → a ≡ b) → value_of a e ≡ value_of b e
  value_same a b (Generated f) same = refl
  value_same a b (OfNumbers operation) same = refl
  value_same a b (OfGraph operation e) same = grind (arith, value_same a b e same)
  value_same a b (OfGraphs operation e f) same = grind (arith, value_same a b e, value_same a b f)
  value_same a b (Induced e entries self_loops multi directed) same = grind (arith, value_same a b e, values_same a b entries)
  value_same a b Stdin same = same refl

  -- the values of entries
  pub values_same : (a b : Result GraphData Panic) (entries : Entries) → (entries_have_stdin entries ≡ true → a ≡ b) → values_of a entries ≡ values_of b entries
  values_same a b NoEntries same = refl
  values_same a b (EntryThen (Number n) others) same = grind (arith, values_same a b others)
  values_same a b (EntryThen (Graph e) others) same = grind (arith, value_same a b e, values_same a b others)

-- ---- what comes of the value of `stdin` on an input

-- there is one on each input
pub some_on : {T : Type 0} (f : Result GraphData Panic → T) (input : List ℕ) → (x : T) × IsOn f input x × ((y : T) → IsOn f input y → y ≡ x)
some_on f input =
    let (stdin, gives) = stdin_given in
    (f (stdin input), (stdin input, gives input, refl), λ y is. grind (arith, stdin_same))

-- ---- values

pub value_only : (input : List ℕ) (e : Expression) (v w : Result GraphData Panic) → IsValueOn input e v → IsValueOn input e w → v ≡ w
value_only input e v w is also = grind (arith, stdin_same)

-- of a generator
pub generated_on : (input : List ℕ) (e : Expr) (f : Generator) → e ≡ expr.Generator f → IsValueOn input (expression_of e) (made (generator_value f))
generated_on input e f is =
    let (stdin, gives) = stdin_given in
    (stdin input, gives input, rw is refl)

-- what is found for each such function, of bytes that are those of the input, is the value on it
pub value_found : (input kept : List ℕ) (e : Expression) (r : Result GraphData Panic) → kept ≡ input
    → ((stdin : List ℕ → Result GraphData Panic) → GivesStdin stdin → IsValue (value_of (stdin kept) e) r)
    → (value : Result GraphData Panic) × IsValueOn input e value × IsValue value r
value_found input kept e r same found =
    let (stdin, gives) = stdin_given in
    (value_of (stdin input) e, (stdin input, gives input, refl), rw (← same) (found stdin gives))

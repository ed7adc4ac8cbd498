-- Refusals that come before memory is taken.
use Rattle.sgb_vec.proofs.Common.{rules, ◌≡◌, ◌≢◌, ◌∙◌, ℕ, ℤ, List, true, false, length, nat_le, Result, Ok, Err, ap, arith, IsErrAnd, leb-true, leb-false, err_from_is_err_and}
use Rattle.sgb_vec.specs.declared.panics.Panic.{Panic}
use Rattle.sgb_vec.specs.declared.panics.Panic.TheVariants.{Early, NoRoom, Syntax}
use Rattle.sgb_graph.specs.Graphs.{GraphData}
use Rattle.sgb_file.specs.Refused.{HasNoOpening}
use Rattle.sgb_expr.specs.Expression.{Expression, Generated, OfNumbers, OfGraph, OfGraphs, Induced, Stdin, OnNumbers, BiComplete, expression_of}
use Rattle.sgb_expr.specs.declared.expressions.Expr.{Expr}
use Rattle.sgb_gen.specs.declared.params.Generator.{Generator}
use Rattle.sgb_gen.specs.Generators.{IsGeneratorRefused}
use Rattle.sgb_values.specs.FirstRefusals.{AreNumbersRefused, IsInputRefused, IsRefusedFirst}
use Rattle.sgb_values.specs.Values.{most_input}
use Rattle.sgb_values.proofs.Refusals.{after, either}

-- what is refused for what it is has another code than that of memory
pub other_code : {T : Type 0} (v : Result T Panic) (code : Panic) → v ≢ Err NoRoom → v ≡ Err code → code ≢ NoRoom
other_code v code judged is e = judged (is ∙ ap Err e)

-- so has a generator
pub generator_other : (f : Generator) (code : Panic) → IsGeneratorRefused f code → code ≢ NoRoom
generator_other f code is e = search (rules, after, either)

-- an operation on numbers
numbers_other : (operation : OnNumbers) (code : Panic) → AreNumbersRefused operation code → code ≢ NoRoom
numbers_other (BiComplete n1 n2 directed) code is = search (rules, other_code, either)
numbers_other operation code is = search (rules, other_code, either)

-- an expression
pub first_other : (input : List ℕ) (e : Expression) (code : Panic) → IsRefusedFirst input e code → code ≢ NoRoom
first_other input (Generated f) code is = generator_other f code is
first_other input (OfNumbers operation) code is = numbers_other operation code is
first_other input (OfGraph operation e) code is = first_other input e code is
first_other input (OfGraphs operation e f) code is = first_other input e code is
first_other input (Induced e _ self_loops multi directed) code is = first_other input e code is
first_other input Stdin code is = search rules

-- a text that is too long
pub long_refused : (input : List ℕ) (r : Result GraphData Panic) → nat_le (length input) most_input ≡ false → r ≡ Err Syntax → (p : Panic) → IsInputRefused input p → r ≡ Err p
long_refused input r more is p h = grind (arith, leb-false)

-- a text that is read
pub text_refused : (input : List ℕ) (r : Result GraphData Panic) → nat_le (length input) most_input ≡ true → (HasNoOpening input → r ≡ Err Early)
    → (p : Panic) → IsInputRefused input p → r ≡ Err p
text_refused input r fits early p h = grind (arith, leb-true)

-- an operand that was made is not refused so
pub made_first : {T : Type 0} (input : List ℕ) (e f : Expr) (x : T) (r : Result GraphData Panic) → e ≡ f
    → ((p : Panic) → IsRefusedFirst input (expression_of e) p → Ok x ≡ Err p) → (p : Panic) → IsRefusedFirst input (expression_of f) p → r ≡ Err p
made_first input e f x r same made p is = grind (arith)

pub made_operands : {T U : Type 0} (x : T) (p : Panic) {r : Result U Panic} → Ok x ≡ Err p → r ≡ Err p
made_operands x p e = absurd cc

-- the exit of a `?` with an operand's refusal
pub exit_first : {T U : Type 0} (input : List ℕ) (e f : Expr) (q : Panic) (r : Result T Panic) → IsErrAnd r (λ g. g ≡ q) → e ≡ f
    → ((p : Panic) → IsRefusedFirst input (expression_of e) p → ◌≡◌ {A = Result U Panic} (Err q) (Err p)) → (p : Panic) → IsRefusedFirst input (expression_of f) p → r ≡ Err p
exit_first input e f q r exit same refused p is = grind (arith, err_from_is_err_and)

-- numbers that stand for themselves
pub numbers_refused : (refuses : ℤ → ℤ → Panic → Type 0) (m n m' n' : ℤ) (r : Result GraphData Panic) → m' ≡ m → n' ≡ n → ((p : Panic) → refuses m' n' p → r ≡ Err p)
    → (p : Panic) → refuses m n p → r ≡ Err p
numbers_refused refuses m n m' n' r e f by p is = by p (rw (e, f) is)

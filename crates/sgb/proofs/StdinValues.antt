-- What standard input is read for: answers depend on it only through the graph that it is a file of, and only where a request
-- reads it.
use Rattle.std.proofs.Common.{◌≡◌, ℕ, Bool, true, false, List, Option, Some, None, IfSome, Result, refl, sym, ap, ◌∙◌, arith}
use Rattle.sgb_vec.specs.declared.panics.Panic.{Panic}
use Rattle.sgb_graph.specs.Graphs.{GraphData}
use Rattle.sgb_expr.specs.Expression.{Expression, expression_of}
use Rattle.sgb_expr.specs.StdinUses.{has_stdin}
use Rattle.sgb.specs.Runs.{AreUsed}
use Rattle.sgb.specs.Outcomes.{IsAnswered, answer_from, answer_of, reads_input}
use Rattle.sgb_gen.specs.Generators.{made}
use Rattle.sgb_values.specs.Values.{IsOn, IsValueOn, value_of}
use Rattle.sgb_values.proofs.StdinValues.{stdin_cut, stdin_given, stdin_same, value_same}
use Rattle.sgb_requests.specs.declared.faults.Fault.{Fault}
use Rattle.sgb_expr.specs.declared.expressions.Expr.{Expr}
use Rattle.sgb_requests.specs.declared.requests.Request.{Request}

-- the answer of a request
answer_same : (r : Request) (a b : Result GraphData Panic) → (reads_input r ≡ true → a ≡ b) → answer_of r a ≡ answer_of r b
answer_same r a b same = grind (arith, value_same)

-- a request that reads no input has the same answer whatever `stdin` is
pub answer_unread : (r : Request) (a b : Result GraphData Panic) → reads_input r ≡ false → answer_of r a ≡ answer_of r b
answer_unread r a b unread = grind (arith, value_same)

-- ---- what comes of the value of `stdin` on an input

-- it is the same on what is kept of standard input
kept_on : {T : Type 0} (f : Result GraphData Panic → T) (reads : Bool) → ((a b : Result GraphData Panic) → (reads ≡ true → a ≡ b) → f a ≡ f b) → (told : Option (List ℕ)) (kept : List ℕ)
    → AreUsed reads told kept → (held : List ℕ) × IfSome told (λ bytes. held ≡ bytes) × (x : T) × IsOn f held x × IsOn f kept x
kept_on f reads same None kept is =
    let (stdin, gives) = stdin_given in
    (kept, tt, f (stdin kept), (stdin kept, gives kept, refl), (stdin kept, gives kept, refl))
kept_on f reads same (Some bytes) kept is =
    let (stdin, gives) = stdin_given in
    let alike = same (stdin bytes) (stdin kept) (λ r. sym (ap stdin (is.0 r) ∙ stdin_cut stdin gives bytes)) in
    (bytes, refl, f (stdin bytes), (stdin bytes, gives bytes, refl), (stdin kept, gives kept, alike))

pub kept_value : (told : Option (List ℕ)) (kept : List ℕ) (e : Expression) → AreUsed (has_stdin e) told kept
    → (held : List ℕ) × IfSome told (λ bytes. held ≡ bytes) × (value : Result GraphData Panic) × IsValueOn held e value × IsValueOn kept e value
kept_value told kept e is = kept_on (λ stdin. value_of stdin e) (has_stdin e) (λ a b same. value_same a b e same) told kept is

-- ---- answers

-- there is one to each input
pub some_answer : (r : Request) (input : List ℕ) → (a : Result (List ℕ) Fault) × IsAnswered r input a
some_answer r input = let (stdin, gives) = stdin_given in (answer_of r (stdin input), (stdin input, gives input, refl))

pub answer_only : (r : Request) (input : List ℕ) (a b : Result (List ℕ) Fault) → IsAnswered r input a → IsAnswered r input b → a ≡ b
answer_only r input a b is also = grind (arith, stdin_same)

pub kept_answer : (told : Option (List ℕ)) (kept : List ℕ) (r : Request) → AreUsed (reads_input r) told kept
    → (held : List ℕ) × IfSome told (λ bytes. held ≡ bytes) × (answer : Result (List ℕ) Fault) × IsAnswered r held answer × IsAnswered r kept answer
kept_answer told kept r is = kept_on (answer_of r) (reads_input r) (λ a b same. answer_same r a b same) told kept is

-- of what is made of the graph of an expression
pub made_answered : (r : Request) (e : Expr) (input : List ℕ) (value : Result GraphData Panic) (answer : GraphData → Result (List ℕ) Fault)
    → ((stdin : Result GraphData Panic) → answer_of r stdin ≡ answer_from (value_of stdin (expression_of e)) answer)
    → IsValueOn input (expression_of e) value → IsAnswered r input (answer_from value answer)
made_answered r e input value answer is (stdin, says, same) = (stdin, says, ap (λ v. answer_from v answer) same ∙ sym (is stdin))

-- of a request whose answer is the same whatever `stdin` is
pub plain_answered : (r : Request) (input : List ℕ) (answer : Result (List ℕ) Fault) → ((stdin : Result GraphData Panic) → answer_of r stdin ≡ answer) → IsAnswered r input answer
plain_answered r input answer is =
    let (stdin, gives) = stdin_given in
    (stdin input, gives input, sym (is (stdin input)))

-- The graph that a text names, or why there is none.
use Rattle.std.proofs.Common.{◌≡◌, ◌⊎◌, ◌∙◌, ℕ, List, false, Option, None, Some, is_some, IfErr, Result, Ok, Err, refl, ap, sym, subst, inl, inr}
use Rattle.std.specs.Prelude.{IfOk, IsSomeAnd, true}
use Rattle.std.specs.Option.{option_map}
use Rattle.sgb_vec.specs.Results.{IsValue}
use Rattle.sgb_vec.specs.declared.panics.Panic.{Panic}
use Rattle.sgb_vec.specs.declared.panics.Panic.TheVariants.{NoRoom}
use Rattle.sgb_graph.specs.Graphs.{GraphData}
use Rattle.sgb_gen.specs.Generators.{generator_value, made}
use Rattle.sgb_gen.specs.declared.params.Generator.{Generator}
use Rattle.sgb_expr.specs.Expression.{Expression, Generated, expression_of}
use Rattle.sgb_expr.specs.Expressions.{IsExpression, IsExpressionRead, IsTooLarge}
use Rattle.sgb_expr.specs.declared.expressions.Expr.{Expr}
use Rattle.sgb_expr.specs.declared.expressions.Expr.TheVariants as expr
use Rattle.sgb_expr.specs.declared.expressions.Unread.{Unread}
use Rattle.sgb_expr.specs.declared.expressions.Unread.TheVariants as unread
use Rattle.sgb_values.specs.FirstRefusals.{IsRefusedFirst}
use Rattle.sgb_values.specs.Values.{IsValueOn}
use Rattle.sgb_values.proofs.StdinValues.{generated_on}
use Rattle.sgb_arrays.specs.OpenGraphs.{IsListed, graph_open}
use Rattle.sgb_arrays.specs.declared.open_graphs.OpenGraph.{OpenGraph}
use Rattle.sgb_c.specs.Answers.{IsGraphNamed, answer_of_unread, number_of}
use Rattle.sgb_c.specs.Handles.{IsOpened}
use Rattle.sgb_c.specs.inner.Causes.{IsValueRefusal}
use Rattle.sgb_c.specs.declared.answers.Answer.{Answer}
use Rattle.sgb_c.specs.declared.answers.Answer.TheVariants as answer

-- a refusal of something of this type
abbrev failed : (T : Type 0) {V : Type 0} → V → Result T V
failed T why = Err why

-- a graph that is built
pub built_value : (input : List ℕ) (e : Expression) (g : GraphData) (r : Result OpenGraph Answer) → (v : Result GraphData Panic) × IsValueOn input e v × IsValue v (Ok g)
    → IfOk r (λ o. graph_open o ≡ g) → IfOk r (λ o. IsValueOn input e (Ok (graph_open o)))
built_value input e g (Ok o) (v, on, is) same = rw same (rw is at on)
built_value input e g (Err why) found same = same

pub built_other : (input : List ℕ) (e : Expression) (g : GraphData) (r : Result OpenGraph Answer) → (v : Result GraphData Panic) × IsValueOn input e v × IsValue v (Ok g)
    → IfErr r (λ why. why ≡ answer.Panic NoRoom) → IfErr r (IsValueRefusal input e)
built_other input e g (Ok o) found memory = memory
built_other input e g (Err why) (v, on, is) memory = (NoRoom, memory, (v, on, inr refl))

-- the graph of a generator's call
module _ (input : List ℕ) (e : Expr) (f : Generator) (is : e ≡ expr.Generator f) where
  pub listed_value : (r : Result OpenGraph Answer) → IfOk r (λ o. made (generator_value f) ≡ Ok (graph_open o)) → IfOk r (λ o. IsValueOn input (expression_of e) (Ok (graph_open o)))
  listed_value (Ok o) value = rw value at (generated_on input e f is)
  listed_value (Err why) value = value

  pub listed_built : (r : Result OpenGraph Answer) → IfOk r (λ o. IsListed o → (g : Generator) × (expression_of e ≡ Generated g))
  listed_built (Ok o) = λ listed. (f, ap expression_of is)
  listed_built (Err why) = tt

  pub listed_other : (r : Result OpenGraph Answer) → IfErr r (λ why. (p : Panic) × (why ≡ answer.Panic p) × IsValue (made (generator_value f)) (Err p)) → IfErr r (IsValueRefusal input (expression_of e))
  listed_other (Ok o) refused = refused
  listed_other (Err why) (p, told, value) = (p, told, (made (generator_value f), generated_on input e f is, value))

-- the graph of the expression that the text is
module _ (text input : List ℕ) (e : Expr) (read : IsExpressionRead text (Ok e)) where
  pub text_named : (r : Result OpenGraph Answer) → IfOk r (λ o. IsValueOn input (expression_of e) (Ok (graph_open o))) → IfOk r (λ o. IsGraphNamed text input (Ok (graph_open o)))
  text_named (Ok o) value = (expression_of e, read.0, read.1, value)
  text_named (Err why) value = value

  pub text_built : (r : Result OpenGraph Answer) → IfOk r (λ o. IsListed o → (f : Generator) × (expression_of e ≡ Generated f)) → IfOk r (λ o. IsListed o → (f : Generator) × IsExpression text (Generated f))
  text_built (Ok o) built = λ listed. let (f, is) = built listed in (f, subst (λ x. IsExpression text x) is read.1)
  text_built (Err why) built = built

  pub text_refused : (r : Result OpenGraph Answer) → IfErr r (IsValueRefusal input (expression_of e)) → IfErr r (λ why. IsGraphNamed text input (Err why))
  text_refused (Ok o) refused = refused
  text_refused (Err why) (p, told, (v, on, inl same)) = inr (inl (p, told, (expression_of e, read.0, read.1, rw same at on)))
  text_refused (Err why) (p, told, (v, on, inr none)) = inr (inr (told ∙ ap answer.Panic none, (expression_of e, read.0, read.1)))

  pub text_first : (r : Result OpenGraph Answer) → ((x : Expression) → IsExpression text x → expression_of e ≡ x) → ((p : Panic) → IsRefusedFirst input (expression_of e) p → r ≡ Err (answer.Panic p))
      → (x : Expression) (p : Panic) → IsExpression text x → (IsTooLarge text → ⊥) → IsRefusedFirst input x p → (r ≡ Err (answer.Panic p)) ⊎ (r ≡ Err (answer.Panic NoRoom))
  text_first r only refused x p is small first = inl (refused p (subst (λ y. IsRefusedFirst input y p) (sym (only x is)) first))

-- a text that is not read
pub unread_first : {T : Type 0} (text input : List ℕ) (cause : Unread) (r : Result T Answer) → r ≡ Err (answer_of_unread cause) → IsExpressionRead text (Err cause)
    → (x : Expression) (p : Panic) → IsExpression text x → (IsTooLarge text → ⊥) → IsRefusedFirst input x p → (r ≡ Err (answer.Panic p)) ⊎ (r ≡ Err (answer.Panic NoRoom))
unread_first text input unread.TooLarge r is read x p word small first = absurd (small read)
unread_first text input (unread.At k) r is read x p word small first = absurd (read.1 x word)
unread_first text input unread.NoRoom r is read x p word small first = inr is

pub unread_large : {T U : Type 0} (cause : Unread) (why : Answer) → why ≡ answer_of_unread cause → failed T cause ≡ Err unread.TooLarge → failed U why ≡ Err answer.TooLarge
unread_large cause why is large =
    let same : cause ≡ unread.TooLarge = cc in
    ap Err (is ∙ ap answer_of_unread same)

-- what is there is not refused, and a refusal is handed on
pub not_refused : {T U V : Type 0} (x : T) (a b : U) → (Ok x ≡ Err a) ⊎ (Ok x ≡ Err b) → V
not_refused x a b (inl e) = absurd cc
not_refused x a b (inr e) = absurd cc

pub refusal_kept : {T U V : Type 0} (a b : V) → failed T a ≡ Err b → failed U a ≡ Err b
refusal_kept a b is =
    let same : a ≡ b = cc in
    ap Err same

pub either_kept : {T U V : Type 0} (a b d : V) → (failed T a ≡ Err b) ⊎ (failed T a ≡ Err d) → (failed U a ≡ Err b) ⊎ (failed U a ≡ Err d)
either_kept a b d (inl is) = inl (refusal_kept a b is)
either_kept a b d (inr is) = inr (refusal_kept a d is)

-- what a handle is to hold, in a block of its own
module _ {B : Type 0} (shown : B → OpenGraph) (text input : List ℕ) (g : OpenGraph) where
  pub boxed_named : (r : Result B Answer) → IfOk r (λ b. shown b ≡ g) → IsGraphNamed text input (Ok (graph_open g)) → IfOk r (λ b. IsGraphNamed text input (Ok (graph_open (shown b))))
  boxed_named (Ok b) same named = subst (λ o. IsGraphNamed text input (Ok (graph_open o))) (sym same) named
  boxed_named (Err why) same named = same

  pub boxed_built : (r : Result B Answer) → IfOk r (λ b. shown b ≡ g) → (IsListed g → (f : Generator) × IsExpression text (Generated f))
      → IfOk r (λ b. IsListed (shown b) → (f : Generator) × IsExpression text (Generated f))
  boxed_built (Ok b) same built = λ listed. built (subst (λ o. IsListed o) same listed)
  boxed_built (Err why) same built = same

  pub boxed_refused : (r : Result B Answer) → IfErr r (λ why. why ≡ answer.Panic NoRoom) → IsGraphNamed text input (Ok (graph_open g)) → IfErr r (λ why. IsGraphNamed text input (Err why))
  boxed_refused (Ok b) none named = none
  boxed_refused (Err why) none named = inr (inr (none, (named.0, named.1, named.2)))

-- what opening a handle of no graph answers
pub opened : {T : Type 0} (shown : T → GraphData) (text input : List ℕ) (held : Option T) (new : Option GraphData) (g : GraphData) (number : ℕ) → is_some held ≡ false
    → number ≡ number_of answer.Done → IsGraphNamed text input (Ok g) → new ≡ Some g → IsOpened text input (option_map shown held) new number
opened shown text input None new g number none done named is = inl (done, (g, named, is))
opened shown text input (Some h) new g number none done named is = absurd cc

pub unopened : {T : Type 0} (shown : T → GraphData) (text input : List ℕ) (held : Option T) (why : Answer) (number : ℕ) → is_some held ≡ false
    → number ≡ number_of why → IsGraphNamed text input (Err why) → IsOpened text input (option_map shown held) (option_map shown held) number
unopened shown text input None why number none told refused = inr ((why, told, refused), refl)
unopened shown text input (Some h) why number none told refused = absurd cc

-- a handle of no graph holds none that is not built, and one that is open holds a graph
pub none_listed : {T V : Type 0} (shown : T → OpenGraph) (held : Option T) → option_map (λ h. graph_open (shown h)) held ≡ None → IsSomeAnd held (λ h. IsListed (shown h)) → V
none_listed shown None none listed = absurd listed
none_listed shown (Some h) none listed = absurd cc

pub open_some : {T V : Type 0} (shown : T → GraphData) (held : Option T) → is_some held ≡ true → option_map shown held ≡ None → V
open_some shown None some none = absurd cc
open_some shown (Some h) some none = absurd cc

-- the number of a refusal
pub refusal_told : {T : Type 0} (a b : Answer) (number : ℕ) → number ≡ number_of a → failed T a ≡ Err b → number ≡ number_of b
refusal_told a b number told is =
    let same : a ≡ b = cc in
    told ∙ ap number_of same

pub either_told : {T : Type 0} (a b d : Answer) (number : ℕ) → number ≡ number_of a → (failed T a ≡ Err b) ⊎ (failed T a ≡ Err d) → (number ≡ number_of b) ⊎ (number ≡ number_of d)
either_told a b d number told (inl is) = inl (refusal_told a b number told is)
either_told a b d number told (inr is) = inr (refusal_told a d number told is)

pub no_refusal : {T U V : Type 0} (x : T) (a : U) → Ok x ≡ Err a → V
no_refusal x a is = absurd cc

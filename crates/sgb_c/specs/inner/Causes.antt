-- What is answered for causes of the libraries below.
use Rattle.std.specs.Prelude.{◌≡◌, ℕ, List, Result, Ok, Err}
use Rattle.sgb_vec.specs.Results.{IsValue}
use Rattle.sgb_vec.specs.declared.panics.Panic.{Panic}
use Rattle.sgb_graph.specs.Graphs.{GraphData}
use Rattle.sgb_expr.specs.Expression.{Expression}
use Rattle.sgb_values.specs.Values.{IsValueOn}
use Rattle.sgb_arrays.specs.declared.refusals.Wrong.{Wrong}
use Rattle.sgb_c.specs.Answers.{answer_of_wrong}
use Rattle.sgb_c.specs.declared.answers.Answer.{Answer}
use Rattle.sgb_c.specs.declared.answers.Answer.TheVariants as answer

-- the answer of a call that fills arrays
abbrev pub answer_of_filling : {T : Type 0} → Result T Wrong → Answer
answer_of_filling (Ok x) = answer.Done
answer_of_filling (Err why) = answer_of_wrong why

-- the value of an expression is refused so, or memory ran out
abbrev pub IsValueRefusal : List ℕ → Expression → Answer → Type 0
IsValueRefusal input e why = (p : Panic) × (why ≡ answer.Panic p) × ((v : Result GraphData Panic) × IsValueOn input e v × IsValue v (Err p))

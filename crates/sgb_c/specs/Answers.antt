-- What a call answers: a number, and what it leaves in the arrays that it is handed.
use Rattle.std.specs.Prelude.{◌≡◌, ◌⊎◌, ℕ, ◌+◌, List, length, Result, Ok, Err}
use Rattle.sgb_vec.specs.Codes.{code_of}
use Rattle.sgb_vec.specs.declared.panics.Panic.{Panic}
use Rattle.sgb_vec.specs.declared.panics.Panic.TheVariants.{NoRoom}
use Rattle.sgb_graph.specs.Graphs.{GraphData}
use Rattle.sgb_expr.specs.Expression.{Expression}
use Rattle.sgb_expr.specs.Expressions.{IsExpression, IsExpressionRead, IsTooLarge}
use Rattle.sgb_expr.specs.declared.expressions.Unread.{Unread}
use Rattle.sgb_expr.specs.declared.expressions.Unread.TheVariants as unread
use Rattle.sgb_values.specs.Values.{IsValueOn}
use Rattle.sgb_arrays.specs.declared.given.Unmade.{Unmade}
use Rattle.sgb_arrays.specs.declared.given.Unmade.TheVariants as unmade
use Rattle.sgb_arrays.specs.declared.refusals.Wrong.{Wrong}
use Rattle.sgb_arrays.specs.declared.refusals.Wrong.TheVariants as wrong
use Rattle.sgb_c.specs.declared.answers.Answer.{Answer}
use Rattle.sgb_c.specs.declared.answers.Answer.TheVariants as answer
use Rattle.sgb_c.specs.declared.Sizes.{Sizes}

-- the number of an answer
abbrev pub number_of : Answer → ℕ
number_of answer.Done = 0
number_of (answer.Panic p) = code_of p
number_of answer.TooLarge = 100
number_of answer.Length = 101
number_of answer.Field = 102
number_of answer.Bound = 103
number_of answer.AlreadyOpen = 104
number_of answer.NotOpen = 105
number_of answer.Vertices = 106
number_of answer.Text = 107
number_of answer.TooMany = 108
number_of (answer.BadExpression k) = 1000 + k

-- the answer where a text is not read
abbrev pub answer_of_unread : Unread → Answer
answer_of_unread unread.TooLarge = answer.TooLarge
answer_of_unread (unread.At k) = answer.BadExpression k
answer_of_unread unread.NoRoom = answer.Panic NoRoom

-- the text is an expression, and this is the value of it where this is standard input
abbrev pub IsValueOfText : List ℕ → List ℕ → Result GraphData Panic → Type 0
IsValueOfText text input value = (e : Expression) × (IsTooLarge text → ⊥) × IsExpression text e × IsValueOn input e value

-- the graph that a text names, or why there is none: the text is refused, or its value is, or memory ran out once it was read
abbrev pub IsGraphNamed : List ℕ → List ℕ → Result GraphData Answer → Type 0
IsGraphNamed text input (Ok g) = IsValueOfText text input (Ok g)
IsGraphNamed text input (Err why) =
    ((cause : Unread) × IsExpressionRead text (Err cause) × (why ≡ answer_of_unread cause))
    ⊎ (((p : Panic) × (why ≡ answer.Panic p) × IsValueOfText text input (Err p))
    ⊎ ((why ≡ answer.Panic NoRoom) × ((e : Expression) × (IsTooLarge text → ⊥) × IsExpression text e)))

-- nothing that is handed over can be a misfit
abbrev pub nothing_misfits : GraphData → Answer → Type 0
nothing_misfits g why = ⊥

-- the answer where an array is not filled, or a number is not told
abbrev pub answer_of_wrong : Wrong → Answer
answer_of_wrong wrong.Length = answer.Length
answer_of_wrong wrong.Field = answer.Field
answer_of_wrong wrong.Bound = answer.Bound
answer_of_wrong wrong.Vertices = answer.Vertices
answer_of_wrong wrong.NoRoom = answer.Panic NoRoom

-- the answer where no graph is made of arrays
abbrev pub answer_of_unmade : Unmade → Answer
answer_of_unmade unmade.Length = answer.Length
answer_of_unmade unmade.TooMany = answer.TooMany
answer_of_unmade unmade.Vertices = answer.Vertices
answer_of_unmade unmade.Text = answer.Text
answer_of_unmade unmade.NoRoom = answer.Panic NoRoom

-- this is the answer where an array is not filled, or a number not told, for one of these causes
abbrev pub IsAnswerFor : (Wrong → Type 0) → Answer → Type 0
IsAnswerFor Cause why = (cause : Wrong) × Cause cause × (why ≡ answer_of_wrong cause)

-- memory ran out, where this takes some
abbrev pub IsOutOfMemory : (memory : Type 0) → Answer → Type 0
IsOutOfMemory memory why = (why ≡ answer.Panic NoRoom) × memory

-- the sizes of a graph
pub record AreSizes (g : GraphData) (sizes : Sizes) : Type 0 where
  pub vertices : sizes.vertices ≡ length g.vertices
  pub id : sizes.id ≡ length g.id

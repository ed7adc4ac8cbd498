-- What a request is answered with: the output, the line on standard error, and the exit status.
use Rattle.std.specs.Prelude.{ℕ, suc, ℤ, pos, neg_ℤ, Bool, false, codes, List, [], ◌++◌, Option, Result, Ok, Err, nat_eq, ok_or, option_map}
use Rattle.std.specs.Result.{result_map_both}
use Rattle.std.specs.List.{position}
use Rattle.std.specs.Cmp.Lexicographic.{pointwise}
use Rattle.sgb_vec.specs.declared.panics.Panic.{Panic}
use Rattle.sgb_vec.specs.declared.panics.Panic.TheVariants.{Early}
use Rattle.sgb_graph.specs.Graphs.{GraphData}
use Rattle.sgb_graph.specs.Vertices.{names_of}
use Rattle.sgb_expr.specs.Expression.{Expression, Generated, Gunion, OfGraphs, expression_of}
use Rattle.sgb_gen.specs.declared.params.Generator.{Generator}
use Rattle.sgb_gen.specs.declared.params.Generator.TheVariants as generator
use Rattle.sgb_expr.specs.StdinUses.{has_stdin}
use Rattle.sgb_file.specs.Saving.{text_of_graph}
use Rattle.sgb_requests.specs.Faults.{status_of, fault_line}
use Rattle.sgb.specs.FlipAnswers.{flip_answer}
use Rattle.sgb.specs.Texts.{name_lines, head, blocks}
use Rattle.sgb_values.specs.Values.{IsOn, value_of}
use Rattle.sgb_requests.specs.declared.faults.Fault.{Fault}
use Rattle.sgb_requests.specs.declared.faults.Fault.TheVariants as fault
use Rattle.sgb_requests.specs.declared.requests.Request.{Request}
use Rattle.sgb_requests.specs.declared.requests.Request.TheVariants as request
use Rattle.sgb_requests.specs.declared.requests.Resume.{Resume}
use Rattle.sgb_requests.specs.declared.requests.Resume.TheVariants as resume

-- how many first vertices of these names are left out: those up to the first one of a name, which has to be there
abbrev pub left_out : List (List ℕ) → Resume → Result ℕ Fault
left_out names resume.Whole = Ok 0
left_out names (resume.Skip k) = Ok k
left_out names (resume.After name) = ok_or (option_map suc (position (λ other. pointwise nat_eq other name) names)) fault.NoVertex

-- the answer of a command `names`, of vertices with these names: those not left out, one a line; or no vertex has the name
abbrev pub names_answer : List (List ℕ) → Resume → Result (List ℕ) Fault
names_answer names resume = result_map_both (name_lines names) (λ f. f) (left_out names resume)

-- what stands before the blocks: nothing where the listing is resumed
abbrev pub head_for : Resume → List ℕ → List ℕ
head_for resume.Whole text = text
head_for _ text = []

-- the answer of a command `list`, of a graph: its head, unless it is resumed, and the blocks not left out; or no such vertex
abbrev pub list_answer : GraphData → Resume → Result (List ℕ) Fault
list_answer g resume = result_map_both (λ k. head_for resume (head g) ++ blocks g k) (λ f. f) (left_out (names_of g) resume)

-- the answer that is made of an accepted graph; a refusal stays as it is
abbrev pub answer_from : Result GraphData Panic → (GraphData → Result (List ℕ) Fault) → Result (List ℕ) Fault
answer_from (Ok g) answer = answer g
answer_from (Err p) answer = Err (fault.Panic p)

-- the board of three rows and four columns for the piece of this number: -1 is a rook, -2 a bishop
abbrev pub moves_of : ℤ → Generator
moves_of step = generator.Board (record { n1 = pos 3; n2 = pos 4; n3 = pos 0; n4 = pos 0; piece = step; wrap = pos 0; directed = false })

-- the moves of queens: those of rooks and those of bishops [QUEEN]
unfoldable pub queen_moves : Expression
queen_moves = OfGraphs (Gunion false false) (Generated (moves_of (neg_ℤ (pos 1)))) (Generated (moves_of (neg_ℤ (pos 2))))

-- what `queen` writes before the listing
abbrev pub queen_title : List ℕ
queen_title = codes "Queen Moves on a 3x4 Board\n\n"

-- whether a request reads standard input: where its expression has `stdin`
abbrev pub reads_input : Request → Bool
reads_input (request.Names e resume) = has_stdin (expression_of e)
reads_input (request.List e resume) = has_stdin (expression_of e)
reads_input (request.Save e) = has_stdin (expression_of e)
reads_input _ = false

-- the output of a request where `stdin` has this value, or the fault that refuses it (`queen` has no `stdin`, and any value would do)
abbrev pub answer_of : Request → Result GraphData Panic → Result (List ℕ) Fault
answer_of (request.Names e resume) stdin = answer_from (value_of stdin (expression_of e)) (λ g. names_answer (names_of g) resume)
answer_of (request.List e resume) stdin = answer_from (value_of stdin (expression_of e)) (λ g. list_answer g resume)
answer_of (request.Save e) stdin = answer_from (value_of stdin (expression_of e)) (λ g. Ok (text_of_graph g))
answer_of request.Queen stdin = answer_from (value_of (Err Early) queen_moves) (λ g. Ok (queen_title ++ (head g ++ blocks g 0)))
answer_of (request.Flip p) stdin = flip_answer p

-- the answer to a request where standard input has these bytes
abbrev pub IsAnswered : Request → List ℕ → Result (List ℕ) Fault → Type 0
IsAnswered r input answer = IsOn (answer_of r) input answer

-- output, line on standard error, and exit status
pub record Outcome : Type 0 where
  pub output : List ℕ
  pub line : List ℕ
  pub status : ℕ

-- what is seen of an answer: a refused request has no output
abbrev pub outcome_of : Result (List ℕ) Fault → Outcome
outcome_of (Ok output) = record { output = output; line = []; status = 0 }
outcome_of (Err f) = record { output = []; line = fault_line f; status = status_of f }

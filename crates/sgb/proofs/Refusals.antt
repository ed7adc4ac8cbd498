-- Parameters are refused for what they are: never out of memory.
use Rattle.std.proofs.Common.{arith, rules, ◌≢◌, ℕ, List, Result, Err}
use Rattle.sgb_vec.specs.declared.panics.Panic.{Panic}
use Rattle.sgb_vec.specs.declared.panics.Panic.TheVariants.{NoRoom}
use Rattle.sgb_graph.specs.Graphs.{GraphData}
use Rattle.sgb_expr.specs.declared.flips.FlipParams.{FlipParams}
use Rattle.sgb.specs.FlipAnswers.{accepted_draws}
use Rattle.sgb.specs.Outcomes.{IsAnswered, answer_of, left_out}
use Rattle.sgb_requests.specs.declared.faults.Fault.{Fault}
use Rattle.sgb_requests.specs.declared.faults.Fault.TheVariants as fault
use Rattle.sgb_requests.specs.declared.requests.Request.{Request}
use Rattle.sgb_requests.specs.declared.requests.Resume.{Resume}
use Rattle.sgb_values.proofs.Refusals.{IsJudged, after, either, value_judged}

-- the draws of a flip
pub draws_judged : (p : FlipParams) → IsJudged (accepted_draws p)
draws_judged p = search (rules, after, either)

-- an answer, or a refusal for what the request is
abbrev pub IsOwn : {T : Type 0} → Result T Fault → Type 0
IsOwn r = r ≢ Err (fault.Panic NoRoom)

-- how many first vertices are left out
pub left_out_own : (names : List (List ℕ)) (resume : Resume) → IsOwn (left_out names resume)
left_out_own names resume = grind (arith)

-- the answer of a request is its output or its own refusal, never out of memory
answer_judged : (r : Request) (stdin : Result GraphData Panic) → IsJudged stdin → IsOwn (answer_of r stdin)
answer_judged r stdin is = grind (arith, left_out_own, value_judged, draws_judged)

pub answer_own : (r : Request) (input : List ℕ) (answer : Result (List ℕ) Fault) → IsAnswered r input answer → IsOwn answer
answer_own r input answer is = grind (arith, answer_judged)

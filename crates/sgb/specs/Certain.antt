-- What a request is answered with whatever memory there is.
use Rattle.std.specs.Prelude.{◌≡◌, ◌≢◌, ◌≤◌, ◌⊎◌, ℕ, false, List, length, Result, Ok, Err}
use Rattle.sgb_vec.specs.declared.panics.Panic.{Panic}
use Rattle.sgb_graph.specs.Graphs.{GraphData}
use Rattle.sgb_gen.specs.Boards.{board}
use Rattle.sgb_graph.specs.Vertices.{names_of}
use Rattle.sgb_expr.specs.Expression.{Expression, expression_of}
use Rattle.sgb_expr.specs.StdinUses.{has_stdin}
use Rattle.sgb_expr.specs.declared.expressions.Expr.{Expr}
use Rattle.sgb_expr.specs.declared.expressions.Expr.TheVariants as expr
use Rattle.sgb_gen.specs.declared.params.Generator.{Generator}
use Rattle.sgb_gen.specs.declared.params.Generator.TheVariants as generator
use Rattle.sgb_requests.specs.declared.requests.Request.{Request}
use Rattle.sgb_requests.specs.declared.requests.Request.TheVariants as request
use Rattle.sgb_requests.specs.declared.requests.Resume.{Resume}
use Rattle.sgb_requests.specs.declared.requests.Resume.TheVariants as resumes
use Rattle.sgb_requests.specs.declared.faults.Fault.TheVariants as fault
use Rattle.sgb.specs.Outcomes.{answer_of, left_out, outcome_of}
use Rattle.sgb.specs.Runs.{IsGiven, Left}
use Rattle.sgb_gen.specs.Generators.{IsAcceptedAtOnce, made}
use Rattle.sgb_values.specs.FirstRefusals.{IsRefusedFirst}

-- an expression that reads no input is refused before memory is taken
pub record IsRefusedAtOnce (e : Expression) : Type 0 where
  pub unread : has_stdin e ≡ false
  pub code : Panic
  pub refused : (input : List ℕ) → IsRefusedFirst input e code

-- an answer is to begin after a name that none of these is, or is resumed after all of them
abbrev pub IsPast : List (List ℕ) → Resume → Type 0
IsPast names resume =
    (left_out names resume ≡ Err fault.NoVertex)
    ⊎ ((resume ≢ resumes.Whole) × ((k : ℕ) × (left_out names resume ≡ Ok k) × (length names ≤ k)))

-- the listing of a generator's graph takes no memory: of a board one that is to begin after a name that no vertex has, or after the
-- last vertex; of a simplex and of subsets of one bound each
abbrev pub IsListedAtOnce : Generator → Resume → Type 0
IsListedAtOnce (generator.Board p) resume = (g : GraphData) → made (board p) ≡ Ok g → IsPast (names_of g) resume
IsListedAtOnce (generator.Simplex p) resume = IsAcceptedAtOnce (generator.Simplex p)
IsListedAtOnce (generator.Subsets p) resume = IsAcceptedAtOnce (generator.Subsets p)

-- answering takes no memory: random numbers, names of a graph accepted without any, listings of IsListedAtOnce, refusals
abbrev pub NeedsNoMemory : Request → Type 0
NeedsNoMemory (request.Names e resume) = ((f : Generator) × (e ≡ expr.Generator f) × IsAcceptedAtOnce f) ⊎ IsRefusedAtOnce (expression_of e)
NeedsNoMemory (request.List e resume) = ((f : Generator) × (e ≡ expr.Generator f) × IsListedAtOnce f resume) ⊎ IsRefusedAtOnce (expression_of e)
NeedsNoMemory (request.Save e) = IsRefusedAtOnce (expression_of e)
NeedsNoMemory request.Queen = ⊥
NeedsNoMemory (request.Flip p) = Unit {0}

-- a request whose answer takes no memory was answered in full where the output is sound: its output, or its refusal's line and status
abbrev pub IsCertain : {S : Type 0} → Request → Left S → Type 0
IsCertain r l = NeedsNoMemory r → l.out.told.failed ≡ false → (stdin : Result GraphData Panic) → IsGiven (outcome_of (answer_of r stdin)) l

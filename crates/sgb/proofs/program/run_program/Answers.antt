use Rattle.std.proofs.Common.{◌∙◌, refl, sym, ◌≡◌, ℕ, List, MatchResult, Result, Ok, Err, arith}
use Rattle.sgb.proofs.Endings.{fault_status}
use Rattle.sgb.proofs.program.run_program.Goals as goal
use Rattle.std.specs.declared.io.ErrorKind.{ErrorKind}
use Rattle.sgb.specs.Certain.{IsCertain}
use Rattle.sgb.specs.Program.{IsProgramRun, unread_fault}
use Rattle.sgb_requests.specs.Requests.{IsCommandLineReadAs}
use Rattle.sgb.specs.Runs.{Input, IsReported, IsRunOn, Left}
use Rattle.sgb_requests.specs.declared.faults.Fault.{Fault}
use Rattle.sgb_requests.specs.declared.requests.Request.{Request}

-- the words make a request, and it was run
program_ran : {W E S : Type 0} (words : Result W E) (texts : W → List (List ℕ)) (kind : E → ErrorKind) (r : Request) (source : Input) (l : Left S)
    → MatchResult words (λ w. IsCommandLineReadAs (texts w) (Ok r)) (λ e. ◌≡◌ {A = Result Request Fault} (Ok r) (Err (unread_fault (kind e))))
    → IsRunOn r source l → IsCertain r l
    → MatchResult words (λ w. IsProgramRun (texts w) source l) (λ e. IsReported (unread_fault (kind e)) l)
program_ran words texts kind r source l is run certain = grind (arith)

-- they are refused, and that was reported
program_refused : {W E S : Type 0} (words : Result W E) (texts : W → List (List ℕ)) (kind : E → ErrorKind) (f : Fault) (source : Input) (l : Left S)
    → MatchResult words (λ w. IsCommandLineReadAs (texts w) (Err f)) (λ e. ◌≡◌ {A = Result Request Fault} (Err f) (Err (unread_fault (kind e))))
    → IsReported f l
    → MatchResult words (λ w. IsProgramRun (texts w) source l) (λ e. IsReported (unread_fault (kind e)) l)
program_refused words texts kind f source l is reported = grind (arith)

pub returns-in-Ok-clause-read : goal.returns-in-Ok-clause-read
returns-in-Ok-clause-read g c = program_ran c.args.words _ _ c.in-Ok.request _ _ c.in-Ok.ensures c.run.ensures.answers c.run.ensures.certain

pub returns-in-Err-clause-read : goal.returns-in-Err-clause-read
returns-in-Err-clause-read g c =
    program_refused c.args.words _ _ c.in-Err.fault _ _ c.in-Err.ensures
    (record { out = record { same = refl; told = refl; sound = c.requires }; line = c.report.ensures.line; exit = c.report.ensures.status })

pub returns-in-Err-clause-flushed : goal.returns-in-Err-clause-flushed
returns-in-Err-clause-flushed g c = λ none. absurd (fault_status c.in-Err.fault (sym c.report.ensures.status ∙ none))

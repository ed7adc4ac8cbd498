-- What a run leaves in its sinks, by what standard input gives.
use Rattle.std.specs.Prelude.{◌≡◌, ◌⊎◌, ◌&&◌, ℕ, Bool, true, false, List, [], Option, IfSome, IfErr, Result}
use Rattle.std.specs.Bool.{MatchBool}
use Rattle.std.specs.Io.KnownBytes.{Appends}
use Rattle.sgb_vec.specs.declared.panics.Panic.TheVariants.{NoRoom}
use Rattle.sgb.specs.Inputs.{IsKeptOfInput}
use Rattle.sgb.specs.Outcomes.{IsAnswered, Outcome, outcome_of, reads_input}
use Rattle.sgb_file.specs.Devices.{AppendsPrefix, AppendsUnlessFailed, Change}
use Rattle.sgb_requests.specs.Faults.{status_of, fault_line}
use Rattle.sgb_requests.specs.declared.faults.Fault.{Fault}
use Rattle.sgb_requests.specs.declared.faults.Fault.TheVariants as fault
use Rattle.sgb_requests.specs.declared.requests.Request.{Request}
use Rattle.sgb.specs.Writing.{Effect, IsUntouched}

-- what a run leaves: what was done to the output sink, what standard error tells of its bytes, the exit status
pub record Left (S : Type 0) : Type 0 where
  pub out : Effect S
  pub err : Change
  pub status : ℕ

-- the answer was given in full: all of its output, its line unless standard error failed, its status
pub record IsGiven {S : Type 0} (answer : Outcome) (l : Left S) : Type 0 where
  pub output : Appends l.out.told.before l.out.told.after answer.output
  pub line : AppendsUnlessFailed l.err answer.line
  pub exit : l.status ≡ answer.status

-- the run was stopped by this fault: a prefix of the answer's output, the fault's line and status
pub record IsStopped {S : Type 0} (by : Fault) (answer : Outcome) (l : Left S) : Type 0 where
  pub output : AppendsPrefix l.out.told.before l.out.told.after answer.output
  pub line : AppendsUnlessFailed l.err (fault_line by)
  pub exit : l.status ≡ status_of by

-- A run with this outcome leaves this. Where the output sink has failed, that stopped the run. Where it is sound, the
-- answer was given, or the run was stopped when memory ran out.
abbrev pub IsRunOf : {S : Type 0} → Outcome → Left S → Type 0
IsRunOf answer l = MatchBool l.out.told.failed
    (IsStopped fault.Write answer l) (IsGiven answer l ⊎ IsStopped (fault.Panic NoRoom) answer l)

-- only a refusal was reported: the output sink is untouched, standard error took this line or failed, and this is the status
pub record IsReportedAs {S : Type 0} (text : List ℕ) (code : ℕ) (l : Left S) : Type 0 where
  pub out : IsUntouched l.out
  pub line : AppendsUnlessFailed l.err text
  pub exit : l.status ≡ code

-- only this fault was reported
abbrev pub IsReported : {S : Type 0} → Fault → Left S → Type 0
IsReported f l = IsReportedAs (fault_line f) (status_of f) l

-- a run leaves this, by whether the input that it read failed and by its answer: a read fault that was reported, and nothing
-- else; or the answer, given or stopped, and where that is a refusal the output sink is as it was, also out of memory
abbrev pub IsRunFrom : {S : Type 0} → Bool → Result (List ℕ) Fault → Left S → Type 0
IsRunFrom failed answer l = MatchBool failed
    (IsReported fault.Read l) (IsRunOf (outcome_of answer) l × IfErr answer (λ f. l.out.new ≡ l.out.old))

-- the bytes that standard input tells before a run, and whether it has failed afterwards
pub record Input : Type 0 where
  pub bytes : Option (List ℕ)
  pub failed : Bool

-- a run that answers this request leaves this: standard input holds a text, the one that it tells if it tells one, and a run
-- leaves this by the answer on it (one that reads none is answered alike on every text: input_unread_law)
abbrev pub IsRunOn : {S : Type 0} → Request → Input → Left S → Type 0
IsRunOn r source l = (held : List ℕ) × IfSome source.bytes (λ bytes. held ≡ bytes)
    × (answer : Result (List ℕ) Fault) × IsAnswered r held answer × IsRunFrom (reads_input r && source.failed) answer l

-- these bytes count for an answer that reads standard input or not: those that are kept of what it tells, or none
abbrev pub AreUsed : Bool → Option (List ℕ) → List ℕ → Type 0
AreUsed reads told used = (reads ≡ true → IsKeptOfInput told used) × (reads ≡ false → used ≡ [])

-- a program that reads standard input or not, with these answers on bytes, leaves this: each answer on the bytes that count
abbrev pub IsAnswerRun : {S : Type 0} → Bool → (List ℕ → Result (List ℕ) Fault → Type 0) → Input → Left S → Type 0
IsAnswerRun reads answers source l = (used : List ℕ) × AreUsed reads source.bytes used
    × ((a : Result (List ℕ) Fault) → answers used a → IsRunFrom (reads && source.failed) a l)

-- a program that reads no input leaves this: where the output sink is sound, each answer on no bytes was given in full
abbrev pub IsAnswerGiven : {S : Type 0} → (List ℕ → Result (List ℕ) Fault → Type 0) → Left S → Type 0
IsAnswerGiven answers l = l.out.told.failed ≡ false → (a : Result (List ℕ) Fault) → answers [] a → IsGiven (outcome_of a) l

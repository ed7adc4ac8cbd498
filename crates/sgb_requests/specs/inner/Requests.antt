-- How the values of a request are read, or refused.
use Rattle.std.specs.Prelude.{◌≡◌, Option, Ok, Err}
use Rattle.clap.specs.Words.{Text}
use Rattle.sgb_requests.specs.Reading.{IsReadAs}
use Rattle.sgb_vec.specs.declared.panics.Panic.TheVariants.{NoRoom}
use Rattle.sgb_expr.specs.declared.expressions.Expr.{Expr}
use Rattle.sgb_requests.specs.declared.faults.Fault.{Fault}
use Rattle.sgb_requests.specs.declared.faults.Fault.TheVariants as fault
use Rattle.sgb_requests.specs.declared.requests.Resume.{Resume}
use Rattle.sgb_requests.specs.Requests.{IsResumeOf}

-- these values of `EXPR`, `--after` and `--skip` are read as this expression and this place to begin
abbrev pub AreReadAs : Text → Option Text → Option Text → Expr → Resume → Type 0
AreReadAs text after skip e resume = IsResumeOf after skip resume × IsReadAs text (Ok e)

-- the fault of values of `--after` and `--skip`: `Usage` where they do not go together, or out of memory
abbrev pub IsResumeFault : Option Text → Option Text → Fault → Type 0
IsResumeFault after skip fault.Usage = (resume : Resume) → IsResumeOf after skip resume → ⊥
IsResumeFault after skip (fault.Panic p) = p ≡ NoRoom
IsResumeFault after skip _ = ⊥

-- the fault of these values: `Usage` by the options before the expression is read, or out of memory
abbrev pub AreRefused : Text → Option Text → Option Text → Fault → Type 0
AreRefused text after skip fault.Usage = (resume : Resume) → IsResumeOf after skip resume → ⊥
AreRefused text after skip (fault.Panic p) = p ≡ NoRoom
AreRefused text after skip f = (resume : Resume) × IsResumeOf after skip resume × IsReadAs text (Err f)

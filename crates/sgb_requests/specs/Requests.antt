-- The requests that the words of a command line make.
use Rattle.std.specs.Prelude.{◌≡◌, ◌≢◌, ◌⊎◌, List, [], Option, Some, None, Result, Ok, Err, codes}
use Rattle.clap.specs.Words.{Row, Text, fault_of, first_of, subcommand_of}
use Rattle.sgb_text.specs.Numbers.{IsNumber}
use Rattle.sgb_expr.specs.Numbers.{most_digits}
use Rattle.sgb_requests.specs.CommandLine.{Asks, Enters, command_line}
use Rattle.sgb_requests.specs.Reading.{IsFlipReadAs, IsReadAs}
use Rattle.sgb_vec.specs.declared.panics.Panic.TheVariants.{NoRoom}
use Rattle.sgb_expr.specs.declared.expressions.Expr.{Expr}
use Rattle.sgb_requests.specs.declared.faults.Fault.{Fault}
use Rattle.sgb_requests.specs.declared.faults.Fault.TheVariants as fault
use Rattle.sgb_requests.specs.declared.requests.Request.{Request}
use Rattle.sgb_requests.specs.declared.requests.Request.TheVariants as request
use Rattle.sgb_requests.specs.declared.requests.Resume.{Resume}
use Rattle.sgb_requests.specs.declared.requests.Resume.TheVariants.{Whole, Skip, After}

-- the answer begins here by the values of `--after` and `--skip`: not both stand, and K is a number of 1 to 18 digits
abbrev pub IsResumeOf : Option Text → Option Text → Resume → Type 0
IsResumeOf None None Whole = Unit {0}
IsResumeOf None (Some count) (Skip k) = IsNumber 10 most_digits count k
IsResumeOf (Some text) None (After name) = name ≡ text
IsResumeOf _ _ _ = ⊥

-- an invalid command line: clap refuses the words, there is no command, both options stand, or K is no number of 1 to 18 digits
abbrev pub IsInvalidCommandLine : List Text → Type 0
IsInvalidCommandLine words = ((fault_of command_line words ≢ []) ⊎ (subcommand_of command_line words ≡ None))
    ⊎ ((command : Text) × (rows : List Row) × (text : Text) × Asks words command rows text
    × ((resume : Resume) → IsResumeOf (first_of (codes "after") rows) (first_of (codes "skip") rows) resume → ⊥))

-- the words ask this command for the answer, from here on, to an expression that is read as this or refused so
abbrev pub IsAskedOf : List Text → Text → Resume → Result Expr Fault → Type 0
IsAskedOf words command resume read = (rows : List Row) × (text : Text) × Asks words command rows text
    × IsResumeOf (first_of (codes "after") rows) (first_of (codes "skip") rows) resume × IsReadAs text read

-- the words make this request
abbrev pub IsRequest : List Text → Request → Type 0
IsRequest words (request.Names e resume) = IsAskedOf words (codes "names") resume (Ok e)
IsRequest words (request.List e resume) = IsAskedOf words (codes "list") resume (Ok e)
IsRequest words (request.Save e) = (rows : List Row) × (text : Text) × Asks words (codes "save") rows text × IsReadAs text (Ok e)
IsRequest words request.Queen = (rows : List Row) × Enters words (codes "queen") rows
IsRequest words (request.Flip p) = (rows : List Row) × (text : Text) × Asks words (codes "flip") rows text × IsFlipReadAs text (Ok p)

-- the words are refused with this fault; out of memory any may be
abbrev pub IsRefusedCommandLine : List Text → Fault → Type 0
IsRefusedCommandLine words fault.Usage = IsInvalidCommandLine words
IsRefusedCommandLine words (fault.Panic p) = p ≡ NoRoom
IsRefusedCommandLine words f =
    ((resume : Resume) × (IsAskedOf words (codes "names") resume (Err f) ⊎ IsAskedOf words (codes "list") resume (Err f)))
    ⊎ (((rows : List Row) × (text : Text) × Asks words (codes "save") rows text × IsReadAs text (Err f))
    ⊎ ((rows : List Row) × (text : Text) × Asks words (codes "flip") rows text × IsFlipReadAs text (Err f)))

-- what the words are read as: a request, or the fault that they are refused with
abbrev pub IsCommandLineReadAs : List Text → Result Request Fault → Type 0
IsCommandLineReadAs words (Ok r) = IsRequest words r
IsCommandLineReadAs words (Err f) = IsRefusedCommandLine words f
